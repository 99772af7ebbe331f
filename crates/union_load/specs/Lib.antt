pub mod Sessions
pub mod Asked
