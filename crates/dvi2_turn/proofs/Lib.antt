pub mod Tallies
pub mod Stands
mod Turns
