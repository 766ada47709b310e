-- The code's position as the format's.
pub mod Position
pub mod PositionLaws
