pub mod Number
pub mod Doubles
