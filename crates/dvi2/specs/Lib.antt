-- DVI with identification 2: its commands, what a file shows, and the file of a list of items.
pub mod Command
pub mod Page
pub mod File
pub mod Writer
pub mod WriterLaws
pub mod Result
