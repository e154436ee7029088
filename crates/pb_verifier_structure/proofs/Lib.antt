pub mod Around
pub mod Walk
pub mod Nests
pub mod Targets
pub mod Whole
pub mod Weights
pub mod Programs
