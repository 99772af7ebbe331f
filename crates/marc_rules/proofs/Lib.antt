pub mod RequiredLaws
pub mod CheckLaws
pub mod Utf8Laws
pub mod AcceptedProof
mod RepeatLaws
