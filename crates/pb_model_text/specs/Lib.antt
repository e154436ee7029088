pub mod Words
pub mod Links
pub mod Grammar
pub mod Models
pub mod Reading
pub mod ModelReading
pub mod Parsing
