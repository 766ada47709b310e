-- The running tape for C callers: in an array of words that the caller lends.
pub mod Words
pub mod WordsLaws
