pub mod FreeBuffers
pub mod Heads
pub mod PortRoom
