-- What the contract of one page of the plain reader cites.
pub mod Page
