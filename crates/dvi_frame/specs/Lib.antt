-- The postamble, made of extents.
pub mod Postamble
pub mod PostambleLaws
