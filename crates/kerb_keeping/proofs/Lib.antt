-- The crate's own laws.
pub mod KerbAnswers
pub mod KerbFilled
pub mod KerbKept
