-- What the contracts cite.
pub mod Layout
pub mod Stores
pub mod Theorems
pub mod Outlines
pub mod Parts
