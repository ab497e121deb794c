-- What the contracts cite.
pub mod KerbCompares
