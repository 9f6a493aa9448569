pub mod ElfFaults
pub mod ElfHeaders
pub mod Tables
pub mod Notes
pub mod ElfFiles
pub mod WrittenElf
pub mod LoadedFiles
