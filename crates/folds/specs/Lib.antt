-- What a pen leaves, and how arcs are held: for speed alone.
pub mod Folds
pub mod Pens
