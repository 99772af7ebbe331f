pub mod FieldLaws
pub mod StableLaws
pub mod TagOrderLaws
pub mod FittingLaws
pub mod LongestLaws
pub mod SoundLaws
pub mod CountLaws
pub mod ClassNumbers
pub mod EntryLaws
pub mod PlaceLaws
pub mod SpelledLaws
pub mod WholeLaws
pub mod NumberShapeLaws
pub mod ExportedParts
pub mod ExportedProof
pub mod EditionLaws
pub mod WritingLaws
mod OwnedLaws
mod DealtLaws
mod AddedFields
pub mod OwnersProof
mod RecordLaws
pub mod ExportLaws
mod PartLaws
mod ShareLaws
pub mod AroundLaws
mod WorkWalk
