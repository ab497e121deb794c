-- The words in which contracts speak of a number's size.
pub mod Sizes
