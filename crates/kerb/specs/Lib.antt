-- What the contracts cite.
pub mod Kerbs
pub mod Styles
pub mod Bounds
pub mod Tours
pub mod Theorems
