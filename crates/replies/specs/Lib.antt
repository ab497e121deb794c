-- What the contracts cite.
pub mod Checks
pub mod Refusals
pub mod Replies
pub mod StyleRows
