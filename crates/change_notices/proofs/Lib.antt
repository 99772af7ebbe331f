mod DecideLaws
pub mod FollowerLaws
mod MarkLaws
mod DoubleLaws
mod NoticeLaws
