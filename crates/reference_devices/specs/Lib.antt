pub mod Columns
pub mod Received
pub mod Steps
pub mod Transfers
