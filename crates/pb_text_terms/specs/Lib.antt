pub mod Operators
pub mod Grammar
pub mod Levels
pub mod Readers
pub mod Reading
