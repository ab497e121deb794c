-- Document 01, "Arcs": what the contracts cite.
pub mod Edges
pub mod Arcs
pub mod Bounds
