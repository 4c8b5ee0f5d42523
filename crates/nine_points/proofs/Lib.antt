pub mod AsBefore
pub mod Refused
