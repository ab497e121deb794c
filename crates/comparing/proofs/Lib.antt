-- The crate's own laws.
pub mod Comparisons
pub mod FirstByte
