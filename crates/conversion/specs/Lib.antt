-- A galley of one form made into the other (document 02, "Old galleys and new").
pub mod Conversion
pub mod ConversionLaws
