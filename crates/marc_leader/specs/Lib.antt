pub mod Numeral
pub mod Codes
pub mod Leader
pub mod Entry
