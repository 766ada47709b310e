pub mod Reprint
pub mod ReprintLaws
