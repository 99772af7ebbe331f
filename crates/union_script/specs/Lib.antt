pub mod Notices
pub mod Texts
pub mod Inputs
pub mod Batches
pub mod Lines
pub mod Runs
