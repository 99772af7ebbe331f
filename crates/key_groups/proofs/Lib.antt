mod Noting
mod Linking
mod Pairing
mod Labelling
pub mod Grouping
