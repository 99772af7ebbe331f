pub mod KeyLaws
pub mod TellingLaws
pub mod TitleLaws
pub mod WorkLaws
pub mod DigitLaws
