-- The crate's own laws.
pub mod CountsAhead
pub mod PieceRoom
