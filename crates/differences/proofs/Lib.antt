-- The crate's own laws.
pub mod EdgesCompared
pub mod Fronted
pub mod Notes
