-- What the contracts cite.
pub mod Fills
pub mod Keeping
pub mod Rewriting
