pub mod Parse
pub mod Reading
pub mod Place
pub mod Counts
