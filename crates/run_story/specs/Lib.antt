pub mod Endings
pub mod Holders
pub mod Said
