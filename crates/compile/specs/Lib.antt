pub mod Compile
pub mod Lists
pub mod Counted
pub mod internal
