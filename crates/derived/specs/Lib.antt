pub mod Outputs
pub mod internal
