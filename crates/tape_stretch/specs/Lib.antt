-- Stretches of flashes and escapes without the whole step: what is derived from a state, what each code does, and a run of codes.
pub mod Stretch
pub mod Further
pub mod FurtherLaws
