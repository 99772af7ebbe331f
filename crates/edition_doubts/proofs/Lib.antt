pub mod GroupLaws
pub mod PlacingLaws
