pub mod BatchLaws
pub mod NoticeLaws
pub mod TextLaws
pub mod LineLaws
pub mod StopLaws
pub mod ScriptLaws
