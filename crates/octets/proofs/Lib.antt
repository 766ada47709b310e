mod Sums
pub mod TransducerLaws
