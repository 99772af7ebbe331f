pub mod History
pub mod Ended
pub mod Views
pub mod Rule
pub mod Steps
pub mod Tokens
pub mod Calls
