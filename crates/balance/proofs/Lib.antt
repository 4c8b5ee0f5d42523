pub mod Terms
pub mod Grouped
pub mod ByBus
