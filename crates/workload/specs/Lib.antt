pub mod Draws
pub mod Groups
pub mod Programs
pub mod Schedules
pub mod Shapes
pub mod Summaries
pub mod Tallies
