pub mod Carried
pub mod Compared
pub mod Ended
pub mod KeptRegisters
pub mod Passed
pub mod Registers
pub mod SameInputs
pub mod ToldRefusals
