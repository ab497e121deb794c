-- The crate's own laws.
pub mod DrawAnswers
pub mod OneDrawing
pub mod PathDrawn
