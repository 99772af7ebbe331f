mod PlacedLaws
mod TakingLaws
mod GroupLaws
mod FileLaws
mod PlacesLaws
mod RowLaws
mod TableLaws
