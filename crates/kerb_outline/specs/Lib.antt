-- What the contracts cite.
pub mod Remaining
