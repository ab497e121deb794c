-- The crate's own laws.
pub mod FormLengths
pub mod ReadBack
pub mod Differing
pub mod Parts
pub mod OwnNumbers
pub mod ShownPosts
pub mod BodiesInBytes
