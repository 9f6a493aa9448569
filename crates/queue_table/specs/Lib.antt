pub mod Lists
pub mod Entries
pub mod Writes
pub mod Walks
pub mod Table
