pub mod Disks
pub mod HeldFiles
