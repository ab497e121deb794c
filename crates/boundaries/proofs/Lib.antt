-- The crate's own laws.
pub mod EdgesAgain
pub mod ResultsClose
pub mod KerbsDrawn
