-- The raw disk by itself: its requests and their callers (`Callers`, `Histories`, `Killed`, `Requested`, `Served`), and what a caller answers
-- (`Answered`).
pub mod Answered
pub mod Callers
pub mod Histories
pub mod Killed
pub mod Requested
pub mod Served
