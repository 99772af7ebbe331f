pub mod PieceLaws
pub mod LineLaws
pub mod CountLaws
pub mod HeldLaws
pub mod AcceptedUtf8
pub mod WrittenLaws
pub mod RunLaws
