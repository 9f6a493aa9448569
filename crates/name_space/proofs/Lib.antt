pub mod Fitting
pub mod Times
