mod Places
pub mod HereLaws
