pub mod Counts
pub mod Signals
