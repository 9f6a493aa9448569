pub mod Clocks
pub mod Histories
pub mod Order
pub mod Races
pub mod Told
pub mod Worked
