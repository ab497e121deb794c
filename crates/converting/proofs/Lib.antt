-- The crate's own laws.
pub mod ConvertRows
pub mod KeptAgain
pub mod OneConverting
pub mod Redrawn
pub mod SoundAgain
