pub mod Numbers
pub mod LineKinds
pub mod ScheduleFiles
pub mod Repeats
