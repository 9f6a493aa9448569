pub mod Spans
pub mod Judging
pub mod Answers
pub mod Held
