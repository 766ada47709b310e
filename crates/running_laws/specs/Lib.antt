-- Calls on a running tape, one after another (document 02, "From the tape drive"), and what they give together.
pub mod Calls
pub mod CallsLaws
pub mod FedLaws
pub mod PiecesLaws
pub mod MadeLaws
pub mod ExtentsLaws
