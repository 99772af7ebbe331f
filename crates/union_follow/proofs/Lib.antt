pub mod EntryLaws
pub mod FollowLaws
pub mod UnionLaws
pub mod AskedLaws
pub mod StatusLaws
pub mod ShelfLaws
