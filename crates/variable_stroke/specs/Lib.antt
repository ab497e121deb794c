-- Document 01, "Chains": what the contracts cite.
pub mod Chains
pub mod Bounds
pub mod Steps
