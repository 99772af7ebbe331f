-- What the contracts of the reader of frames cite.
pub mod Pieces
pub mod Streaming
pub mod Answering
