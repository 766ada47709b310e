-- What the contracts cite: how far a file is read.
pub mod Fonts
pub mod Reading
