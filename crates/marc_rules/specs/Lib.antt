pub mod Contents
pub mod RequiredFields
pub mod NineteenRules
pub mod Checked
pub mod Accepted
pub mod AcceptedLaws
pub mod Refusals
pub mod Repeats
