pub mod Input
pub mod Sizes
pub mod State
pub mod Transmitting
