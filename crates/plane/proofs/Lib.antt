-- The crate's own laws.
pub mod Settle
pub mod Products
pub mod Directions
pub mod Turns
pub mod Shifts
pub mod Norms
pub mod Swinging
pub mod Leeway
