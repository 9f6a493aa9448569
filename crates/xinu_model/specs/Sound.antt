-- What holds of the state: of the tables, of the pools, of the ports, of the console and the devices, and of all of it between two events.
pub mod Console
pub mod Devices
pub mod Disks
pub mod Pools
pub mod Ports
pub mod State
pub mod Tables
