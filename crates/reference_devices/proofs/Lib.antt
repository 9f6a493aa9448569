pub mod BlockBytes
pub mod ConsoleRoom
pub mod Fitting
pub mod LastBytes
pub mod ReadSome
pub mod ReadTexts
