-- What the contracts cite.
pub mod Drawing
