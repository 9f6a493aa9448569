-- Calls on files under way, apart from processes.
pub mod Order
pub mod Rest
pub mod Sizes
pub mod Sound
