-- Lists: counts, orders, maps, the search for a free number.
pub mod Counts
pub mod Maps
pub mod Orders
pub mod Searches
