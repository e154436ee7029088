pub mod Shapes
pub mod Functions
pub mod Scope
pub mod Term
pub mod Formula
pub mod Faults
pub mod WellTyped
