-- What the contracts cite.
pub mod Counted
pub mod KerbDrawing
