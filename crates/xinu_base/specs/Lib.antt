pub mod Constants
pub mod Hexadecimal
pub mod Insert
pub mod Names
pub mod Syscalls
pub mod Texts
