pub mod Awaited
pub mod Calls
pub mod Left
pub mod Lines
pub mod More
pub mod Names
pub mod Whereabouts
