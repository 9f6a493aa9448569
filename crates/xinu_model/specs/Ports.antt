-- Ports: their queues, and the calls on them (book, chapter 11).
pub mod Calls
pub mod Queues
