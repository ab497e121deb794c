-- What the contracts cite.
pub mod Orders
pub mod Search
pub mod Stacks
pub mod Tables
