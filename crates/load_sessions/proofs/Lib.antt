pub mod TallyLaws
pub mod TurnLaws
pub mod AheadLaws
pub mod AskLaws
pub mod ReplyLaws
