pub mod Places
pub mod Free
pub mod Numbers
