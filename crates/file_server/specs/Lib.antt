pub mod DiskStates
pub mod FileDisks
pub mod OpenFiles
pub mod Requests
pub mod ServerStates
pub mod Servers
pub mod Settled
pub mod Starts
