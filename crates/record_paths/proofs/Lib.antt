-- The crate's own laws.
pub mod Counted
pub mod WantedRecords
pub mod WholeVertices
