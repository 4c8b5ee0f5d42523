pub mod Counts
pub mod Sizes
pub mod Constants
pub mod Laws
pub mod Order
pub mod Finite
pub mod Right
pub mod Tallied
