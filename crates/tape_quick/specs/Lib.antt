-- The codes of a tape that are taken beside the stretches, without the whole step.
pub mod Turn
