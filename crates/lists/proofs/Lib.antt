pub mod Found
pub mod NonFinite
pub mod Point
pub mod Pairs
pub mod Copy
