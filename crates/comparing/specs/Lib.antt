-- What the contracts cite.
pub mod Compares
