-- What the contracts cite.
pub mod Converting
