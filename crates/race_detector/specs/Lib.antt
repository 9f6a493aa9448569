pub mod Acts
pub mod Detects
pub mod Finds
pub mod Sources
pub mod Told
