pub mod Answering
pub mod Follow
pub mod Jobs
