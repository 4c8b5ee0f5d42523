pub mod Before
pub mod Wider
