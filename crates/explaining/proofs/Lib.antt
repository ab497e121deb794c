-- The laws.
pub mod Answers
pub mod OneAnswer
