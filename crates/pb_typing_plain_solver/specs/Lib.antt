pub mod Side
pub mod Bounds
pub mod Step
