pub mod GivingFields
pub mod Values
pub mod Shown
pub mod Members
