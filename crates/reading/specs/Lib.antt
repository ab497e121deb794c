-- What the contracts cite.
pub mod PostsReading
pub mod Reading
