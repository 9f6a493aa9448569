-- The heap: its cells, and the calls on it (book, chapter 9).
pub mod Calls
pub mod Cells
