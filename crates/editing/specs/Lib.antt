-- What the contracts cite.
pub mod Replacing
