pub mod Joining
pub mod Learning
pub mod Targets
