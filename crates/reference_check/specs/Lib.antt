pub mod Bounds
pub mod Leaving
pub mod Making
pub mod Places
pub mod Starting
pub mod Steps
pub mod Taking
