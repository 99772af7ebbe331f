pub mod Names
pub mod Texts
pub mod WorkKeys
pub mod Laws
