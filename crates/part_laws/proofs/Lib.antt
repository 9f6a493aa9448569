pub mod ConsoleRoom
pub mod Consoles
pub mod FileSystems
pub mod FileWork
pub mod HeapCells
pub mod NameSpaces
pub mod RawDisks
