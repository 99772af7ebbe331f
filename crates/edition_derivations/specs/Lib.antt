pub mod Steps
pub mod Deriving
pub mod Shortened
pub mod Answers
pub mod Common
