pub mod Matches
mod Choices
mod Marks
mod Selects
mod Defines
mod Steps
