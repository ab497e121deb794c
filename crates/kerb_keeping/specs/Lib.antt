-- What the contracts cite.
pub mod KerbFills
pub mod KerbKeeping
