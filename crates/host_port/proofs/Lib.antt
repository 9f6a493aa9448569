mod Answered
mod HeldLemmas
mod HexText
pub mod Prints
mod Writes
