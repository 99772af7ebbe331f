pub mod AheadLaws
pub mod StepLaws
