pub mod FirstOverlap
pub mod Ownership
pub mod Replies
pub mod WholeReads
pub mod WholeWrites
