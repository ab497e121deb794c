-- What the contracts cite.
pub mod Sides
