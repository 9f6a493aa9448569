pub mod Consoles
pub mod Devices
pub mod Disks
pub mod Files
pub mod Mounts
pub mod Openings
