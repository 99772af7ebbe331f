pub mod PreferredLaws
pub mod Gathering
pub mod Members
pub mod LevelLaws
pub mod GreaterParts
pub mod TagBytes
