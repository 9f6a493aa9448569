pub mod BufferCounts
pub mod Chunks
pub mod Listed
