pub mod Operands
pub mod Scans
