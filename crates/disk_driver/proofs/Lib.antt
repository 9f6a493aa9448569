pub mod Chunks
pub mod Cuts
pub mod Within
pub mod Zeros
