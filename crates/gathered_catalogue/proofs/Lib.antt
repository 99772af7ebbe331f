pub mod FollowLaws
pub mod GatherLaws
