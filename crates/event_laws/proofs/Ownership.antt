-- Who has which address: each is claimed at most once, unless a process gives away what is held.
pub mod Boot
pub mod Claims
pub mod Events
pub mod ExtentEvents
pub mod Giving
pub mod GrantEvents
pub mod Grants
pub mod Memory
pub mod Pairs
pub mod Processes
pub mod Runs
pub mod Table
