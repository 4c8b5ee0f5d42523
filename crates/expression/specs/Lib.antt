pub mod Value
pub mod internal
