-- The C/A/T (document 01, "Tape codes"): the codes, the machine, and what every step keeps.
pub mod Code
pub mod CodeLaws
pub mod Machine
pub mod StepLaws
pub mod EffectLaws
pub mod Sound
pub mod SoundLaws
