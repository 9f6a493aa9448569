pub mod Meanings
pub mod Tellings
pub mod WordsFaults
