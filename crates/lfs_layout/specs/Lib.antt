pub mod Files
pub mod Made
pub mod Images
