pub mod Content
pub mod Fitting
