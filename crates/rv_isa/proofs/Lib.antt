pub mod Apart
pub mod Decoded
pub mod Forms
pub mod Immediates
pub mod Placed
pub mod RowByFields
pub mod RowNames
