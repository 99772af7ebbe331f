pub mod Tables
pub mod Following
pub mod Gathering
pub mod Engines
