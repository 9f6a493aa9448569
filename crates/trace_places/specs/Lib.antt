pub mod Places
pub mod Moments
pub mod Reading
pub mod Finding
