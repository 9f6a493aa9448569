pub mod Disposals
pub mod FreeRoom
pub mod GrantedRange
pub mod NewPorts
pub mod Places
pub mod RoomLeft
pub mod TokenTaken
