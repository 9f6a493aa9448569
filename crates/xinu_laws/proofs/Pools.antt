-- What holds of the pools is kept.
pub mod Calls
pub mod Change
pub mod Frame
pub mod Holders
pub mod Made
pub mod Preserve
pub mod Start
pub mod Steps
pub mod Written
