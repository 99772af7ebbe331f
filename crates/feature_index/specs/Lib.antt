pub mod Postings
pub mod Rows
