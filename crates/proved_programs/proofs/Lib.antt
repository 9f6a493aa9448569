pub mod Counted
pub mod Loaded
pub mod Lost
pub mod Sourced
