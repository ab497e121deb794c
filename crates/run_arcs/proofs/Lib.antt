-- The program's own laws.
pub mod Guards
