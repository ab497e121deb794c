-- The crate's own laws.
pub mod AfterCompact
pub mod AfterMake
pub mod AfterPut
pub mod AfterRemove
pub mod AfterWriting
pub mod Entries
pub mod SoundEntries
