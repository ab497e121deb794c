-- The crate's own laws.
pub mod Allowed
pub mod Contacts
pub mod Steps
pub mod Tangents
pub mod Covers
pub mod OffCentre
