pub mod Writes
pub mod Inputs
pub mod Decimals
pub mod Texts
