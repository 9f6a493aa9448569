pub mod Frame
pub mod Moves
pub mod Preserve
pub mod Repeated
