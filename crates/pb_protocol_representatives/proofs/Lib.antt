pub mod Radix
pub mod Swapped
pub mod Indices
pub mod States
pub mod Carried
pub mod Loops
pub mod Reached
pub mod Made
