pub mod Apartness
pub mod Bytes
pub mod Finding
pub mod Holding
pub mod Keys
pub mod Listing
