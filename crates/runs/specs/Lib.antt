-- The words in which contracts speak of what was written, or compared.
pub mod Runs
