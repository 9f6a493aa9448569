pub mod GivenUp
pub mod Heaps
pub mod Rests
