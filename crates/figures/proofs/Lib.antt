mod Moves
mod Arrays
mod Countings
mod Onwards
