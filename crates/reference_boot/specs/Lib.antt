pub mod Few
pub mod FirstBlocks
pub mod Starts
