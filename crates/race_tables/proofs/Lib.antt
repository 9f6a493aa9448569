pub mod Added
pub mod Equal
pub mod Kept
pub mod Places
pub mod Tables
