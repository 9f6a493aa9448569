pub mod Answered
pub mod EqualParts
pub mod GoingOn
pub mod Released
pub mod Together
pub mod Values
