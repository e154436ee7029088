pub mod Digits
pub mod Numbers
pub mod Counts
pub mod Equations
pub mod Links
pub mod Sizes
pub mod Sorts
pub mod Refusals
