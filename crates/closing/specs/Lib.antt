-- Boundaries that close: what is proved of the rules, of both kinds.
pub mod Closing
pub mod Exceptions
