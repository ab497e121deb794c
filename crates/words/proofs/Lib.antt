-- The crate's own laws.
pub mod Bytes
pub mod NumberRuns
pub mod OneWord
