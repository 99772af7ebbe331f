pub mod Counting
pub mod Posting
pub mod States
pub mod Answering
