pub mod SoundFiles
pub mod WholeBlocks
pub mod Given
