pub mod Outputs
pub mod Scratch
pub mod NonFinite
pub mod Turns
