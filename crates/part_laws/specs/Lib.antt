pub mod Consoles
pub mod FileEffects
pub mod FileWork
pub mod FreeCells
pub mod GivenDisks
pub mod Preserve
