mod BesideSteps
mod BesideLaws
pub mod MemberLaws
pub mod MeetLaws
pub mod KeyLaws
pub mod PostedLaws
pub mod TitledLaws
pub mod FindingLaws
