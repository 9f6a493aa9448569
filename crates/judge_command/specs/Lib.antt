pub mod Judging
pub mod Theorem
