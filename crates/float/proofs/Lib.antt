pub mod Above
pub mod Really
pub mod Signs
pub mod Values
pub mod Patterns
pub mod Finite
pub mod Negated
pub mod Casts
