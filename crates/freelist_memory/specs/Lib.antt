pub mod Blocks
pub mod Gaps
pub mod Heaps
pub mod Lists
pub mod Searches
