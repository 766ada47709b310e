-- The items of a galley, one by one.
pub mod Here
