-- What holds of the tables at each moment is kept by each move: of one process, of several, at the start, at a tick, at the end of an event.
pub mod Alive
pub mod Changes
pub mod Deaths
pub mod Ends
pub mod Found
pub mod Harts
pub mod MoveTo
pub mod Owners
pub mod Places
pub mod Scheduling
pub mod Signals
pub mod Starts
pub mod States
pub mod Ticks
pub mod Unblock
pub mod Unused
