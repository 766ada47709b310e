-- The DVI file of 1980 (002): what it is, what it shows, the sheet that this makes, and the file of a list of items.
pub mod Command
pub mod Page
pub mod Postamble
pub mod File
pub mod Mark
pub mod Sheet
pub mod Writer
pub mod WritingLaws
pub mod FontOrNone
pub mod Edition
pub mod Demand3
