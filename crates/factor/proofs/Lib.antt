pub mod Numbers
pub mod Fine
pub mod Factors
pub mod Turns
pub mod Chain
