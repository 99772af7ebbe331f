pub mod Fates
pub mod Records
pub mod Requests
pub mod Listings
