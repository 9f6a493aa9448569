-- The cells of the heap: rows of free ones, what a search finds, what is taken and freed.
pub mod Extent
pub mod Found
pub mod Granted
pub mod Marked
pub mod Refused
pub mod Rows
pub mod Taken
