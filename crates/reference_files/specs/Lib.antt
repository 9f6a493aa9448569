pub mod Effects
pub mod Sizes
pub mod Steps
