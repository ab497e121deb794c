-- The crate's own laws.
pub mod Distinct
pub mod Landed
pub mod Leaping
pub mod LeapTests
pub mod Bows
