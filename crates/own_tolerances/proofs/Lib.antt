pub mod AsBefore
pub mod Wider
