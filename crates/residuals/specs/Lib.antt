pub mod Residuals
pub mod internal
