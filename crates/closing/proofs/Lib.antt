-- The crate's own laws.
pub mod Carried
pub mod Chained
pub mod EvenCaps
pub mod PathsClose
pub mod KerbsClose
pub mod Reached
