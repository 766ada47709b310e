mod Targets
mod Items
pub mod BackLaws
pub mod ExistsLaws
pub mod MarkLaws
pub mod ResultLaws
pub mod TargetLaws
