-- The theorem.
pub mod Legible
