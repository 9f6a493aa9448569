pub mod Buffer
pub mod Places
pub mod Sources
pub mod Statement
