mod Sends
mod Items
pub mod CodesLaws
pub mod ReadyLaws
pub mod SettingLaws
