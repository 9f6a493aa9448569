-- The console by itself: what a received character, a transmission and a control function do to its lists (`Characters`, `Erasing`, `Steps`,
-- `Transmissions`), and who is told of the end of the input (`Ended`).
pub mod Characters
pub mod Ended
pub mod Erasing
pub mod Steps
pub mod Transmissions
