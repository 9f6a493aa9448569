pub mod Exclusion
pub mod Fairness
pub mod Moments
pub mod Policy
pub mod RoundRobin
pub mod Sleeping
pub mod Stuck
pub mod Tokens
