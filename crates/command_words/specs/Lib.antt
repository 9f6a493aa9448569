pub mod ValueKinds
pub mod Tools
pub mod Words
pub mod Forms
pub mod ToolNames
