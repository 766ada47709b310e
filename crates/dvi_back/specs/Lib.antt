-- The code's counts as those of the definitions.
pub mod Tally
