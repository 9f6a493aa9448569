pub mod Nodes
pub mod Table
pub mod Calls
