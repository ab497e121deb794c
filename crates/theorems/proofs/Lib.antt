-- The crate's own laws.
pub mod Marked
pub mod ThroughCalls
pub mod KerbsKept
