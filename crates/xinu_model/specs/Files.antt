-- Files: what is on the file system's disk, the open file devices, what each call on files does, and when it does it (book, chapter 19).
pub mod Calls
pub mod Constants
pub mod Issue
pub mod Modes
pub mod Opening
pub mod Reading
pub mod Rest
pub mod Room
pub mod Sound
pub mod Stored
pub mod Syscalls
pub mod Systems
pub mod Work
pub mod Writing
