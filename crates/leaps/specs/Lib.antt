-- What counting cites: for speed alone.
pub mod Counts
pub mod Landings
pub mod Leaps
pub mod Bows
