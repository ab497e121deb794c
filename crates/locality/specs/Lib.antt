-- How far a change reaches: what is proved of the rules.
pub mod Local
