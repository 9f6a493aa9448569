pub mod OperandTexts
pub mod Disassembly
pub mod Readings
pub mod CodeRows
