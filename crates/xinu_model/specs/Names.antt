-- The name space: mounted prefixes, what they make of a name, and the calls on it (book, chapter 21).
pub mod Calls
pub mod Constants
pub mod Mapping
pub mod Mounting
pub mod Sound
