-- The crate's own laws.
pub mod Reaches
pub mod StoreReach
pub mod OneOutcome
pub mod TheNumber
