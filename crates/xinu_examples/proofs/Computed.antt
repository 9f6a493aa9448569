-- What becomes of the examples, by computation.
pub mod Calls
pub mod Consoles
pub mod Disks
pub mod Files
pub mod Ports
pub mod Priorities
pub mod Promises
