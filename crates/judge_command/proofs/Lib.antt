pub mod Carried
pub mod SameInputs
