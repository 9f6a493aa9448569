pub mod FirstOverlap
pub mod Ownership
pub mod Reply
pub mod Rises
pub mod WholeReads
pub mod WholeWrites
