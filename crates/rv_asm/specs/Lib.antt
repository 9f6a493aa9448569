pub mod Layouts
pub mod Faults
pub mod Assembly
pub mod Examples
pub mod CodeLabels
pub mod CodeLayouts
pub mod CodeAssembly
pub mod Listings
