-- The laws.
pub mod Laws
pub mod Onward
pub mod Written
pub mod Agreed
