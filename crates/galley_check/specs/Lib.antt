-- What the check of a galley and reading back answer, and what an accepted galley is made into.
pub mod Span
pub mod Result
pub mod ResultLaws
pub mod Found
pub mod Low
pub mod LowLaws
pub mod Accepted
pub mod Galley
