-- The proofs.
pub mod Salvageable
