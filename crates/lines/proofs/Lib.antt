-- Laws of pages.
pub mod Growing
