pub mod Cells
pub mod Names
pub mod Lines
pub mod Counts
pub mod Editions
