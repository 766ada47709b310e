-- The codes of XGP character mode (003), and the two measures of the printer.
pub mod Measure
pub mod Code
pub mod CodeLaws
