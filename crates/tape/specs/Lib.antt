-- C/A/T tapes (document 01, "Numbers given back"): what a tape gives.
pub mod Tape
pub mod RunLaws
pub mod ResultLaws
pub mod Pass
pub mod TapeLaws
