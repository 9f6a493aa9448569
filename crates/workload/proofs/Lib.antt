pub mod Booting
pub mod Counted
pub mod Reading
pub mod Sizes
pub mod Turns
