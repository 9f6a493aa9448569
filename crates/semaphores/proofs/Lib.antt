pub mod Counting
pub mod Starting
pub mod Finding
pub mod Releasing
pub mod Forgetting
