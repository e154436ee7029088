pub mod Links
pub mod Runs
pub mod Slots
pub mod Nested
pub mod Called
pub mod Filled
pub mod FormulaLinks
pub mod Turns
