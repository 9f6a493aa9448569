pub mod Actions
pub mod Commands
pub mod Digits
pub mod Frames
pub mod Names
pub mod Operands
pub mod SeenUnits
pub mod Units
