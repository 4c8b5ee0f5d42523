-- What only contracts between the layers cite; a reader of the public contracts of row values needs none of it.
pub mod Scan
