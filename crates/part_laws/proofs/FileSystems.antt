-- The files and the open devices by themselves: what each effect keeps.
pub mod Devices
pub mod Effects
pub mod Opened
pub mod Orders
pub mod Refusals
pub mod Rooms
pub mod Started
pub mod Stored
pub mod Written
