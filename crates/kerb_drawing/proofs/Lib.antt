-- The crate's own laws.
pub mod KerbAnswers
pub mod OneKerb
