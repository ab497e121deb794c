-- The theorems.
pub mod AfterAdd
pub mod InChunks
