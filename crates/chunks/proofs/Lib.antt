-- The crate's own laws.
pub mod Answered
pub mod Ends
pub mod Laid
pub mod OneOutcome
pub mod Packed
pub mod Placed
pub mod Removed
