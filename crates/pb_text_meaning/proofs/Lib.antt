pub mod Positive
pub mod Instances
pub mod Bounded
pub mod Truths
