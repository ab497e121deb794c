-- The crate's own laws.
pub mod MostBy
pub mod Most
pub mod PathWalk
pub mod Stands
pub mod Reach
