-- The call that mounts a prefix: what it touches, and what it keeps.
pub mod Calls
