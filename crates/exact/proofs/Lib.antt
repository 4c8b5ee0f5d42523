pub mod Fits
pub mod Objective
pub mod Exactly
