-- The galley (document 01, "Galley"), and what its check answers.
pub mod Font
pub mod Form
pub mod FormLaws
pub mod Character
pub mod CharacterLaws
pub mod Item
pub mod ItemLaws
pub mod Galley
pub mod Outcome
pub mod ReadingLaws
pub mod GalleyLaws
pub mod Walk
pub mod Faults
pub mod Fields
pub mod FieldsLaws
pub mod Items
pub mod ItemsLaws
