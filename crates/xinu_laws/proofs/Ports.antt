-- What holds of the ports is kept.
pub mod Cleared
pub mod Counts
pub mod Deletions
pub mod Finish
pub mod Kept
pub mod Made
pub mod Messages
pub mod Moves
pub mod Renewals
pub mod Renewed
pub mod Sends
pub mod Signals
pub mod Start
pub mod Waits
