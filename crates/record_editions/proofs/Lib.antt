pub mod OwnLaws
mod RecordsLaws
mod EditionTexts
pub mod KeyTexts
mod LeastNames
