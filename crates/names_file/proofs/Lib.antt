mod TallyLaws
pub mod NamesLaws
