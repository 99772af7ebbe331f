pub mod MapLaws
pub mod TableLaws
pub mod TouchedLaws
pub mod HomeLaws
pub mod StayLaws
