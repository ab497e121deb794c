-- The crate's own laws.
pub mod Changed
pub mod KeptReplaced
pub mod NewVertex
pub mod OneReplacing
pub mod StoreRefused
