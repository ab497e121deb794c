-- The crate's own laws.
pub mod FilledSteps
pub mod KeepAnswers
pub mod OneKeeping
pub mod PathKept
pub mod Rewrites
pub mod TwoRuns
pub mod Whole
