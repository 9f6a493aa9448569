pub mod FirstLine
pub mod Named
pub mod Proved
pub mod Theorem
