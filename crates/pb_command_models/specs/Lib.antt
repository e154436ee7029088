pub mod Models
pub mod Outcomes
pub mod Symmetries
pub mod Denials
pub mod ReachedSteps
pub mod Why
pub mod Writes
