pub mod Moments
pub mod Passes
pub mod Placements
pub mod Preempted
