pub mod Answer
pub mod internal
