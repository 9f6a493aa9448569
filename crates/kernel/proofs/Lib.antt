pub mod Kept
pub mod PlainSteps
pub mod Values
