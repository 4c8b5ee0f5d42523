-- What only this crate's own contracts cite; a reader of the public contracts needs none of it.
pub mod NonFinite
