-- The devices: their part of the state, the table of what each offers, and the calls on them (book, chapter 14).
pub mod Calls
pub mod State
pub mod Table
pub mod Texts
