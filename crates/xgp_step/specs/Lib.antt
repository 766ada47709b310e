-- The code's steps and stretches as those of the definitions.
pub mod Step
pub mod Stretch
