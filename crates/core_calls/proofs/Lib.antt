pub mod Disposals
pub mod InTurn
pub mod PoolCalls
pub mod PortCalls
pub mod PortRenewals
pub mod SemaphoreCalls
