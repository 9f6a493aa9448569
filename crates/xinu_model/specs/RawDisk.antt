-- The raw disk: its blocks, the requests that wait for it, and the calls on it (book, chapter 18).
pub mod Callers
pub mod Calls
pub mod Completions
pub mod Constants
pub mod Histories
pub mod Requests
pub mod Sound
