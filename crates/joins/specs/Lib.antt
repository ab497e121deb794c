-- Document 01, "Chains": caps and joins.
pub mod Joins
