mod Passes
pub mod PunchLaws
