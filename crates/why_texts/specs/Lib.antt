pub mod Ids
pub mod FieldTexts
pub mod Reasons
pub mod Sources
pub mod Steps
pub mod Differences
pub mod Answers
pub mod Fields
