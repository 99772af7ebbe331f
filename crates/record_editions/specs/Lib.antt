pub mod RecordLaws
pub mod Records
pub mod Ops
pub mod EditionKeys
