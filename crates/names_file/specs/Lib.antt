pub mod Judging
pub mod NamesFiles
pub mod Named
