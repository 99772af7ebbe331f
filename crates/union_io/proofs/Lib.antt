-- Lemmas on writing a text in pieces, and on the names and counts that a shelf keeps.
pub mod Writes
pub mod NamesKept
