-- The console and its callers: the calls on it, its interrupts and all other calls keep what holds of it and of those who wait for it.
pub mod Framed
pub mod Kept
pub mod Promised
pub mod Put
pub mod Signalled
pub mod Started
pub mod Taken
