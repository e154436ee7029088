pub mod Invariant
pub mod Places
pub mod Ints
mod Intervals
pub mod Covering
pub mod Rules
pub mod CarrierValues
pub mod Operands
pub mod Steps
pub mod Loops
pub mod Runs
pub mod Written
pub mod Trees
pub mod Safe
pub mod Monotone
