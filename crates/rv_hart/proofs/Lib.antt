pub mod Dispatch
pub mod Fetched
pub mod Ran
pub mod Written
