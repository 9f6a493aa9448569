pub mod Kept
pub mod Ranges
pub mod RoomBySize
pub mod Small
