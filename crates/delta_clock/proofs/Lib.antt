pub mod Delays
pub mod Waking
pub mod Ready
