pub mod Order
pub mod Covered
pub mod Pushes
pub mod Ranges
pub mod Dispatch
pub mod SecondRoot
pub mod OrderedRanges
