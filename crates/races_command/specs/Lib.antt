pub mod Judged
pub mod Printed
pub mod Searching
pub mod Shown
pub mod Stuck
pub mod Theorem
pub mod Words
