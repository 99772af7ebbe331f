pub mod Values
pub mod Shapes
pub mod Tokens
