pub mod Before
pub mod Refused
