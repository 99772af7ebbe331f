mod HousedLaws
pub mod Looking
mod StayLaws
mod InstallLaws
mod Naming
mod NamedLaws
mod Strangers
pub mod SameEditions
pub mod Holders
pub mod WalkLaws
mod ToldLaws
mod Images
mod Unranked
mod ReachLaws
mod DividedLaws
