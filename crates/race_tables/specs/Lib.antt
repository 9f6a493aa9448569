pub mod Explored
pub mod Rows
