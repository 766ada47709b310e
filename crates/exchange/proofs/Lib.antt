pub mod AlikeLaws
pub mod EscapeLaws
pub mod ExchangeLaws
pub mod SettingLaws
pub mod SwapLaws
