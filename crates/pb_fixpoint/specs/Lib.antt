pub mod Solution
pub mod Fixpoint
pub mod Transfer
