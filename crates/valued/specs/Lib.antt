pub mod FileParts
pub mod Outcomes
pub mod File
pub mod Spared
