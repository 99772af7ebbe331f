-- What the contracts of sources, sinks and shelves cite.
pub mod Causes
pub mod Reading
pub mod Writing
pub mod Files
pub mod Names
pub mod Counts
pub mod Opening
pub mod Opened
pub mod Store
pub mod Pieces
pub mod Script
pub mod MemSource
pub mod MemSink
pub mod MemShelf
pub mod SureSource
pub mod SureShelf
pub mod ReaderSource
