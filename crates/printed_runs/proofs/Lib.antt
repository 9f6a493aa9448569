pub mod Digits
pub mod Known
pub mod Named
pub mod Noted
