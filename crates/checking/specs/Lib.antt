-- What the contracts cite.
pub mod Known
pub mod OtherKind
pub mod StoreChecks
pub mod StoreRoom
