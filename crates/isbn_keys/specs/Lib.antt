pub mod Text
pub mod Check
pub mod Isbn
pub mod Issn
pub mod Lccn
pub mod Control
pub mod Laws
