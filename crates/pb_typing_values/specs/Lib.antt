pub mod Slots
pub mod Environment
pub mod Quantifier
