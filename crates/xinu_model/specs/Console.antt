-- The console: its state, what a received character, a transmission and a control function do, the calls on it, and what always holds
-- (book, chapter 15).
pub mod Constants
pub mod Controls
pub mod Echo
pub mod Putting
pub mod Receiving
pub mod Rows
pub mod Signals
pub mod Sound
pub mod State
pub mod Taking
pub mod Transmitting
pub mod Typing
