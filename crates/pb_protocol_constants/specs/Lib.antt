pub mod Settled
pub mod Hidden
pub mod Rules
pub mod Faults
pub mod Contexts
