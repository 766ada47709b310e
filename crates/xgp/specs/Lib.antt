-- XGP character mode (003), and the sheet that a file of it makes (document 02, "The XGP drawer").
pub mod State
pub mod Effect
pub mod File
pub mod Sheet
pub mod Cases
