-- Tapes that come in pieces (document 02, "From the tape drive"): what each call gives and leaves.
pub mod Answer
pub mod Running
pub mod RunningLaws
