pub mod Digits
pub mod Acceptance
pub mod DrawLaws
pub mod BlockLaws
pub mod SizeLaws
