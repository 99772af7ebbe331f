pub mod TextLaws
pub mod TokenLaws
pub mod LineLaws
pub mod BackLaws
pub mod ShapeLaws
