pub mod Added
pub mod Along
pub mod Joined
pub mod Loaded
pub mod Runs
pub mod SomeTest
pub mod Whole
