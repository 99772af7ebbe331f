mod IdLists
pub mod MemberLaws
pub mod Reading
pub mod Steps
pub mod WorksLaws
pub mod Writing
