pub mod Curve
pub mod internal
