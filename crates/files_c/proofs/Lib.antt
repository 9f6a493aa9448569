pub mod Geometry
pub mod Tests
pub mod Going
pub mod Effects
pub mod Held
pub mod Starting
pub mod Apart
