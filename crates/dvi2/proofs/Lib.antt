mod Runs
mod Leads
mod FontPieces
mod Pieces
pub mod Items
mod Examples
pub mod Shown
