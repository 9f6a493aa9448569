pub mod Fewness
pub mod FrontLemmas
pub mod Members
pub mod MomentLaws
pub mod MomentLemmas
pub mod Order
pub mod StepLemmas
pub mod Unfolded
