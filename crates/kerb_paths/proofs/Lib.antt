-- The crate's own laws.
pub mod PointsAhead
pub mod PiecesTold
