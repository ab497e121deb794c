-- The crate's own laws.
pub mod Told
pub mod OneReply
pub mod ChunkTold
pub mod ConvertTold
pub mod ReasonTold
pub mod RecordTold
pub mod SideTold
pub mod SalvageTold
