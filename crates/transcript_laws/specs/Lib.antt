pub mod Reading
pub mod Choices
pub mod Transcripts
