-- The code's widths as those of the format.
pub mod Width
