-- Of any file: when each refusal is said and in which order, that all values are finite, and what a call can end in.
pub mod Laws
pub mod Order
pub mod FileOrder
pub mod Outcomes
pub mod Constants
-- Of the file that compile writes.
pub mod Difference
pub mod InRange
pub mod TrigFree
pub mod SharedParts
pub mod Numbers
pub mod ModelValues
pub mod Compiled
