-- What only this crate's own contracts and those of the crates above it cite; a reader of the public contracts needs none of it.
pub mod Items
pub mod Grouped
pub mod Balance
