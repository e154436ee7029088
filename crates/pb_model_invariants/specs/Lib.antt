pub mod Invariants
pub mod Laws
pub mod Links
