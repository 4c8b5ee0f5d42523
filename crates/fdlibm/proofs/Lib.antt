mod Turns
mod Square
mod Quick
pub mod Rounded
pub mod RootNumber
pub mod HypotRoots
pub mod HypotNumber
pub mod Zero
