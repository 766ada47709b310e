pub mod Puts
mod Stretches
