pub mod SmallSets
pub mod CountedSets
