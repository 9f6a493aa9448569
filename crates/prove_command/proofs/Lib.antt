pub mod Files
pub mod Judged
pub mod Lines
pub mod Proved
pub mod WordsThere
