-- The files of the second edition, read back: where a file is refused, how it is read, and that the two agree.
pub mod Beginning
pub mod PageReading
pub mod Reading
pub mod SizeLaws
pub mod Reached
pub mod Standing
pub mod Demand3
