pub mod DigitLemmas
pub mod PlaceLemmas
pub mod RoundLemmas
pub mod Skipped
pub mod TypedLemmas
pub mod ReadingLemmas
