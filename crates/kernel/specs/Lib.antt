pub mod Booted
pub mod Kernels
pub mod Taken
pub mod Values
