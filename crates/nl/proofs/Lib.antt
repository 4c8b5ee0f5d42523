-- Laws of the model file. `Condition3` collects what other crates and docs/PROOF.md cite.
pub mod Words
pub mod Build
pub mod Steps
pub mod Complete
pub mod Sound
pub mod PartSteps
pub mod PartComplete
pub mod PartSound
pub mod Unique
pub mod Finds
pub mod Alike
pub mod Begun
pub mod Condition3
mod Cases
