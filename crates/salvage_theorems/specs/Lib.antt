-- The theorems.
pub mod AfterSalvage
