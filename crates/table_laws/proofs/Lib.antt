pub mod Buffers
pub mod Frame
pub mod Lists
pub mod Places
pub mod PortRoom
pub mod Preserve
pub mod Tables
