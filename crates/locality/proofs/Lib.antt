-- The proofs of it.
pub mod Locality
pub mod FirstSettled
