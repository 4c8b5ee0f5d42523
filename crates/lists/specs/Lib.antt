pub mod Finite
pub mod internal
