pub mod Completions
pub mod Ends
pub mod Places
