-- Document 02, request 1: what the contracts cite.
pub mod Reasons
pub mod Lists
pub mod Counts
