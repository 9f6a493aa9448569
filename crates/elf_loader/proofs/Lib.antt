pub mod NextSegment
pub mod NoteWalks
pub mod WrittenFiles
pub mod WrittenLoads
pub mod ReadBack
