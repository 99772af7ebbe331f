pub mod AskLaws
pub mod PieceLaws
pub mod TurnLaws
mod TextLaws
pub mod ToldLaws
pub mod TallyLaws
pub mod NoteLaws
pub mod RunLaws
pub mod WatchLaws
