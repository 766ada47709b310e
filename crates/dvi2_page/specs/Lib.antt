-- What the contracts cite.
pub mod Match
pub mod Fonts
