pub mod Cuts
pub mod Names
pub mod Numbers
pub mod Parts
pub mod Pushes
pub mod ReadBack
pub mod Said
