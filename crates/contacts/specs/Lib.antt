-- Document 01, from the limits to covering: what the contracts cite.
pub mod Limits
pub mod Contacts
pub mod Covering
pub mod Bounds
