-- The crate's own laws.
pub mod OneOutcome
pub mod PathChecks
pub mod Rows
pub mod StyleFaults
