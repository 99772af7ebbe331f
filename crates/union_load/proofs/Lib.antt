pub mod SessionLaws
pub mod FaultLaws
pub mod ReplyLaws
