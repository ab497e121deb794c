-- What the contracts cite.
pub mod Examples
pub mod Theorems
