pub mod RowFields
pub mod Table
pub mod Words
pub mod Encoding
