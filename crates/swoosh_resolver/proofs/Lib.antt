mod Across
mod Adding
mod Bases
mod Counting
mod Finding
mod Giving
mod Installing
mod Keys
mod Laying
mod Listing
mod Looking
mod Moving
pub mod Places
mod Numbering
mod Opening
mod Placing
mod Putting
mod Seats
mod Standing
mod Unmerged
mod Vacating
pub mod Splitting
pub mod Views
mod Whole
