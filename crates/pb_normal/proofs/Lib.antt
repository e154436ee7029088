mod SignedForms
mod Truth
pub mod Views
mod Operands
mod Positive
mod Rights
pub mod Equations
pub mod Sequences
pub mod Answer
mod Kept
mod SlotLaws
pub mod Structs
pub mod LoopSlots
mod Bounds
mod SmallForms
pub mod FormulaSet
mod Calls
mod InitialPlace
