pub mod Word
pub mod Kinds
pub mod Limits
pub mod Network
pub mod Fault
pub mod Layout
pub mod internal
