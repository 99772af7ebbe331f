pub mod Frames
pub mod Cutting
pub mod Phases
