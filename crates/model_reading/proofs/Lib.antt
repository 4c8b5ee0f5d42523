-- Laws of reading: `Reading` ties what is read to what a file stands for, `RowCounts` to the counts.
pub mod Standing
pub mod Reading
pub mod RowCounts
mod Cases
