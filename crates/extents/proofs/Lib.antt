pub mod FontMarksLaws
pub mod ExtentsLaws
pub mod FieldsLaws
