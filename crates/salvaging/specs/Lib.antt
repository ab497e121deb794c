-- What the contracts cite.
pub mod FrontChecks
pub mod Salvaging
