-- What the contracts cite.
pub mod Answers
pub mod Calls
pub mod Chunks
