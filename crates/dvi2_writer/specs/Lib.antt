-- The values of the writer's code in terms of the format.
pub mod Writing
pub mod Postamble
