-- The raw disk and its callers: the calls on it, its completions, deaths and all other calls keep what holds of it and of those who wait for it.
pub mod Completed
pub mod Deaths
pub mod Framed
pub mod Kept
pub mod Moves
pub mod Started
