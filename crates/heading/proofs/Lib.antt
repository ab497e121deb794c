-- The crate's own laws.
pub mod Handed
pub mod HeadRows
pub mod Shown
