pub mod Columns
pub mod Build
pub mod Parts
pub mod Rows
pub mod Model
pub mod Factor
pub mod Tallies
