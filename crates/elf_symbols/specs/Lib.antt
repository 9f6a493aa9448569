pub mod Sections
pub mod Symbols
pub mod Functions
pub mod CodePlaces
pub mod SoFar
