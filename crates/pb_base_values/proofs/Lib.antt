pub mod Tuples
pub mod Division
pub mod Apart
pub mod Ends
pub mod Products
pub mod QuotientBounds
pub mod Sound
pub mod Monotone
