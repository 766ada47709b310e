mod Entries
pub mod AmountLaws
pub mod HeightLaws
pub mod SumsLaws
