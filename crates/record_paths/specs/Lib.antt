-- What the contracts cite.
pub mod RecordPaths
