-- What only contracts between the layers cite; a reader of the public contracts needs none of it.
pub mod From
