-- Punching a tape from a galley (document 02, "Punching a tape").
pub mod Punch
