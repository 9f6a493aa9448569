pub mod Faults
pub mod Parts
pub mod Images
pub mod ImageFiles
