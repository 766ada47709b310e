-- The galley whose targets a DVI file shows (document 02, "DVI back to a galley").
pub mod Target
pub mod Back
pub mod Taken
