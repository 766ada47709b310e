pub mod Expected
mod Closes
