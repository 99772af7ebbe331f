pub mod Words
pub mod Normal
pub mod Shown
pub mod Ascii
pub mod Heading
pub mod Parts
