-- The crate's own laws.
pub mod StyleNumbers
pub mod CornerCases
pub mod ClearSections
pub mod TourLaw
pub mod TourCases
pub mod TourKept
pub mod KerbMost
pub mod KerbReach
