pub mod NameLaws
pub mod SizeLaws
pub mod TableLaws
pub mod RecordLaws
pub mod TextLaws
