pub mod Entries
pub mod Room
pub mod Steps
pub mod Works
