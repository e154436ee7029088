pub mod Answers
pub mod Parts
pub mod Winners
pub mod Lifting
pub mod Solving
