-- Boundaries that close, as the calls give them.
pub mod Results
