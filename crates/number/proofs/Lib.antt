-- The crate's own laws.
pub mod Roots
pub mod Nearest
pub mod Leading
