-- The crate's own laws.
pub mod Gathered
