-- The crate's own laws.
pub mod Gains
pub mod Arrivals
pub mod NotCounted
pub mod ArcEdges
pub mod PathEdges
