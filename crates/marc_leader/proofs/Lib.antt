pub mod Numerals
pub mod Places
pub mod EntryLaws
pub mod LeaderLaws
