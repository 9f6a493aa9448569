pub mod ClearedPorts
pub mod PortRoom
