pub mod Kernel
pub mod RemPio2
pub mod Trig
pub mod Sqrt
pub mod Near
pub mod Hypot
pub mod internal
