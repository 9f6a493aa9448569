pub mod Ending
pub mod Listed
pub mod PrintedMoments
pub mod PrintedParts
pub mod PrintedRows
pub mod Sending
pub mod Carried
