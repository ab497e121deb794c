-- The laws, from the bottom up.
pub mod Signed
pub mod Sizes
pub mod Order
pub mod Division
pub mod Squares
