pub mod Words
pub mod Pieces
pub mod Indexes
pub mod Directory
