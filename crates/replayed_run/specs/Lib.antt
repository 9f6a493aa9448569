pub mod Lines
pub mod Progress
pub mod Replayed
pub mod Replays
pub mod Texts
pub mod Told
