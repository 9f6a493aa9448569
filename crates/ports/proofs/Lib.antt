pub mod Queues
pub mod Linking
pub mod Walking
pub mod Entries
pub mod ReadBack
pub mod Finding
