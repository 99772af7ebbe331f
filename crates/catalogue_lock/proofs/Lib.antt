pub mod Counting
pub mod Histories
pub mod Kept
pub mod Roots
