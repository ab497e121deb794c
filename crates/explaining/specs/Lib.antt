-- What the contracts cite.
pub mod Explaining
