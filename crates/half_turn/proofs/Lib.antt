-- The crate's own laws.
pub mod Rotations
pub mod Halves
pub mod Told
