pub mod Nesting
pub mod Reached
pub mod ReachedBounds
pub mod ReachedTexts
