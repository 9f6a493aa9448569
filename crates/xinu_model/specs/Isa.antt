-- The instruction set RV32I: its table, what each instruction does, one step of a process, and many plain instructions.
pub mod Effects
pub mod Exec
pub mod Instructions
pub mod Ran
