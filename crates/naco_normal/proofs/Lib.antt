pub mod CharacterLaw
pub mod TableLemmas
pub mod LettersLemmas
pub mod WordsLemmas
pub mod AsciiLemmas
pub mod PartsLemmas
pub mod SkipLemmas
