pub mod Prefixes
mod Stepping
