-- What the contracts cite.
pub mod OwnRoom
