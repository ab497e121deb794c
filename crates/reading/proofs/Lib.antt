-- The crate's own laws.
pub mod KeptRead
pub mod OneReading
pub mod PostsAnswers
pub mod ReadAnswers
