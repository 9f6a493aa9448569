pub mod Wakeups
