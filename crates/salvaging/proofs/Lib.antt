-- The crate's own laws.
pub mod FrontRows
pub mod Given
pub mod OneSalvage
