-- The crate's own laws.
pub mod KeptStore
pub mod KnownStore
pub mod OtherKinds
pub mod StorePassed
pub mod StoreReads
pub mod StoreRooms
pub mod StoreRows
