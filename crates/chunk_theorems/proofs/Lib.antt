-- The crate's own laws.
pub mod Adding
pub mod InPlace
pub mod StorePassed
