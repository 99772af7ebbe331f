mod LeastLaws
mod FormTexts
mod FormLetters
mod FormUtf8
pub mod KeyTexts
