-- The code's commands as those of 002.
pub mod Command
