-- What the contracts cite.
pub mod Adding
