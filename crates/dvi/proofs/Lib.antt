mod Runs
mod Pieces
mod Characters
mod Items
mod Postambles
pub mod Shown
pub mod Demand3
pub mod WriterLaws
pub mod PageLaws
pub mod FileLaws
pub mod SheetLaws
pub mod EditionLaws
