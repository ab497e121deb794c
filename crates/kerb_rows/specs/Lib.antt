-- What the contracts cite.
pub mod KerbRows
