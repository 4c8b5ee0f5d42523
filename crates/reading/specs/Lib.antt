pub mod ReadsAs
pub mod Written
