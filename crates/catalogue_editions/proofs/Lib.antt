pub mod Apart
pub mod MappedLaws
mod NetLaws
pub mod JoinedLaws
mod BorrowedUnions
