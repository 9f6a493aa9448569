pub mod Counting
pub mod Soaks
