pub mod Looks
pub mod NearNull
pub mod Strays
