pub mod Apart
pub mod DiskBytes
pub mod Disks
pub mod FileEffects
pub mod Machines
pub mod Printed
pub mod RunEnds
pub mod Starts
