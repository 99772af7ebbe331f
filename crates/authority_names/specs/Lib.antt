pub mod Leads
pub mod Names
pub mod Places
pub mod Records
