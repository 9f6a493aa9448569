pub mod Words
pub mod Entries
pub mod Joins
pub mod DirBlocks
pub mod IndexPuts
