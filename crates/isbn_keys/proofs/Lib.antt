pub mod KeyLemmas
pub mod CutLemmas
pub mod SystemLemmas
pub mod CheckLaws
