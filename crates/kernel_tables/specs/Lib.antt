pub mod Queues
pub mod Waking
pub mod KernelTables
pub mod Walks
