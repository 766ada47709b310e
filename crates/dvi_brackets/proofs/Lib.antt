mod Going
mod Groups
pub mod Agreement
pub mod BracketsLaws
pub mod Clean
pub mod Inner
pub mod RunAgreement
pub mod TreeLaws
