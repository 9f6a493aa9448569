-- Semaphores: their table, signals and waits, and the calls on them (book, chapter 7).
pub mod Calls
pub mod Counts
pub mod Waiting
