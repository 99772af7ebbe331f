-- What the contracts of the explanations cite.
pub mod Readings
pub mod Pieces
pub mod Located
pub mod Gathered
pub mod Locating
pub mod Texts
pub mod Rules
pub mod Reports
pub mod Glances
pub mod Broken
pub mod Rows
pub mod Tables
pub mod Runs
pub mod Conversions
pub mod Requests
pub mod Laws
