-- The sheet, what a file shows, and what a reader is lent; the sheet that a pass has made so far.
pub mod Sheet
pub mod SheetLaws
pub mod Shown
pub mod ShownLaws
pub mod Readable
pub mod ReadableLaws
pub mod Filled
