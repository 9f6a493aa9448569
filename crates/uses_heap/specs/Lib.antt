pub mod Pools
pub mod Taken
