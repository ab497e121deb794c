-- The crate's own laws.
pub mod Laid
pub mod Eleven
pub mod ReadBack
pub mod FoldByFold
