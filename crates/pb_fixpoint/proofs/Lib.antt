mod Chain
pub mod Solved
pub mod Transfer
