pub mod Outside
pub mod HostCalls
pub mod Recording
pub mod QuietHost
pub mod MemoryHost
pub mod LineText
pub mod Printing
