pub mod Loop
pub mod Word
pub mod Fault
pub mod Refusal
pub mod Order
pub mod internal
