pub mod Standings
pub mod Placed
pub mod Readings
pub mod Lines
pub mod Groups
pub mod Requests
pub mod Tables
pub mod GroupTables
