-- The calls, the continuations and the events keep what holds of a state.
pub mod Calls
pub mod Continued
pub mod Disks
pub mod Events
pub mod Memory
pub mod Messages
pub mod Processes
pub mod Runs
pub mod Semaphores
pub mod Unused
pub mod Whole
pub mod Within
