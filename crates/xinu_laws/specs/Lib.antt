pub mod Outcomes
pub mod Touches
