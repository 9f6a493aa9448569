pub mod Answers
pub mod Checksums
pub mod Descriptions
pub mod Registers
pub mod Stops
pub mod Threads
