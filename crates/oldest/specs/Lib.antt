-- What the importer and the writer promise, and the theorems.
pub mod Floats
pub mod Taken
pub mod Written
pub mod Calls
pub mod Answers
pub mod Converts
pub mod Theorems
