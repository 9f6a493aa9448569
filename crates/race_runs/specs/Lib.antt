pub mod Explored
pub mod Forced
pub mod Remainders
pub mod Runs
