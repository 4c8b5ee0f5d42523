pub mod Sized
pub mod Stands
pub mod Read
pub mod Bits
pub mod Widths
pub mod Reading
