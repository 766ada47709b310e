-- The commands around the pages, made of numbers.
pub mod Frame
pub mod FrameLaws
