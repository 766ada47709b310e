-- The code's state and step as those of the format; where a pass over a file stands.
pub mod Postamble
pub mod Step
pub mod Standing
