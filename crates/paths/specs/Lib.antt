-- A path's bodies and edges: what the contracts cite.
pub mod Paths
pub mod Stands
