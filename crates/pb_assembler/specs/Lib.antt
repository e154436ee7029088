pub mod Emitted
pub mod Operands
pub mod Compiled
pub mod Laws
