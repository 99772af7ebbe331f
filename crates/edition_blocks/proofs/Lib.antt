pub mod BlockLaws
pub mod LookingLaws
pub mod DeltaLaws
mod SameLaws
mod AmongLaws
pub mod ByKey
