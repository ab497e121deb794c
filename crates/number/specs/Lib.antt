-- Document 01, "Numbers underneath": what the contracts cite.
pub mod Root
pub mod MulDiv
pub mod Division
