-- Processes: scheduling, how they are made, how they die, and the calls on them (book, chapters 4 to 6).
pub mod Calls
pub mod Creation
pub mod Death
pub mod Scheduling
