pub mod StoredFiles
pub mod Rewriting
pub mod Middle
pub mod Holds
pub mod Fitting
pub mod Changing
