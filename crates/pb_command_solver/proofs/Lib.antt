pub mod Rows
mod Answered
mod Parts
pub mod Results
