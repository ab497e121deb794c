-- How many rotations an arc can need, and how many edges that leaves each rule.
pub mod Rotations
pub mod Most
