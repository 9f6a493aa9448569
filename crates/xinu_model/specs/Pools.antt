-- Buffer pools: their buffers, and the calls on them (book, chapter 10).
pub mod Buffers
pub mod Calls
