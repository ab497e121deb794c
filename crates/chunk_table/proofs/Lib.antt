-- The crate's own laws.
pub mod Below
pub mod Checked
pub mod Inserted
pub mod Looked
pub mod Ordering
pub mod SoundTables
pub mod Stacked
pub mod Standing
pub mod Stood
