pub mod Following
pub mod Turning
pub mod Loads
