-- The codes of an item on a punched tape (document 02, "Punching a tape").
pub mod Codes
pub mod Reach
