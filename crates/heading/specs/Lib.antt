-- What the contracts cite.
pub mod Headers
pub mod Heads
pub mod Shows
pub mod StoreRows
