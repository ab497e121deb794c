-- Document 01, "Numbers underneath", for points and vectors: what the contracts cite.
pub mod Vectors
pub mod Directions
pub mod Swings
pub mod OffBy
