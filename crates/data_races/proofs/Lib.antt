pub mod Counted
pub mod Kept
pub mod Loaded
pub mod Plain
pub mod Ranges
pub mod Stored
