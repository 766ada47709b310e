mod Max
pub mod TargetLaws
