pub mod Deltas
pub mod Grouping
pub mod ClosedKeys
