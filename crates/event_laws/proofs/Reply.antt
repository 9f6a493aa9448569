-- What calls answer: refusals, values, stale tickets, and those who are released; and when the kernel panics.
pub mod Calm
pub mod Continued
pub mod Ecall
pub mod Panics
pub mod RefusedEvents
pub mod Refusing
pub mod Released
pub mod Tickets
pub mod Timeouts
pub mod Told
pub mod Values
