-- What rises in an event: the clock by one in a tick, and the number of a port by one at most.
pub mod ClockEvents
pub mod PortEvents
