pub mod Section
pub mod Room
pub mod CostWalk
