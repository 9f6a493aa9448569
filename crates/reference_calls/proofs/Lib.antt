pub mod HeapCells
pub mod Made
pub mod Ticks
