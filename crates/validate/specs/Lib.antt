pub mod Tolerances
pub mod Check
pub mod internal
