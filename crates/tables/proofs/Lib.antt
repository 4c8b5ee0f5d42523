pub mod Steps
pub mod Laid
pub mod Order
pub mod Right
pub mod Required
