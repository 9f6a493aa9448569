-- One pass over the calls and the events, for any predicate on tables that is closed under their moves.
pub mod Calls
pub mod DeviceCalls
pub mod Events
pub mod PortCalls
pub mod Steps
pub mod TableCalls
