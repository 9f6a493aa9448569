-- The name space by itself: mounts, and mappings.
pub mod Mappings
pub mod Mounts
