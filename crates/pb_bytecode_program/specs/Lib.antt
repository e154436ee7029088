pub mod Values
pub mod Abstract
pub mod Machine
pub mod Counts
pub mod Transfer
pub mod Accepted
pub mod Safety
pub mod Monotone
