pub mod Causes
pub mod Reasons
pub mod Texts
pub mod CodeCauses
