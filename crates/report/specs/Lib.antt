-- A report over at most 65,536 tapes (document 02, "The cabinet in numbers").
pub mod Report
pub mod Sums
pub mod Cases
