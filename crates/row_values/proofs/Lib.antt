pub mod Passes
pub mod Runs
pub mod Files
pub mod Room
pub mod Answers
