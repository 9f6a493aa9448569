pub mod Answers
pub mod FileCalls
pub mod Happened
