-- Document 02, request 2: for speed alone.
pub mod Pairs
