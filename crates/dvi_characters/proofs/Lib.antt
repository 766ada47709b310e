mod Fonts
mod Moves
