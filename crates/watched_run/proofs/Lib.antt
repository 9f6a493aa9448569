pub mod Changes
pub mod LookedBack
pub mod Moving
pub mod PassedBack
pub mod Passing
pub mod Taking
pub mod TrapLines
