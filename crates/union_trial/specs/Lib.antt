pub mod Draws
pub mod TrialRecords
pub mod Streams
pub mod Blocks
pub mod Measured
pub mod Trials
