mod Moves
mod Stacks
