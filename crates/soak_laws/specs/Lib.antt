pub mod Code
pub mod Four
pub mod Running
pub mod Schedule
pub mod Steps
pub mod Words
