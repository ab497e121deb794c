-- The crate's own laws.
pub mod Most
pub mod Stored
pub mod Limits
pub mod Rays
pub mod Cases
pub mod Reach
pub mod Mirrored
