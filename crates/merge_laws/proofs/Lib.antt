mod Existing
pub mod Inserting
pub mod InsertingAll
pub mod Places
pub mod Resolutions
pub mod Resolving
pub mod Sorted
mod Spending
pub mod Tags
pub mod Withdrawing
