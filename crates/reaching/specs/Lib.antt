-- How far another vertex in a kept outline can reach: what the contracts cite, and the theorems over the definitions.
pub mod Replies
pub mod Theorems
