pub mod Syntax
pub mod Erase
pub mod Meaning
pub mod Steps
pub mod Satisfaction
pub mod Examples
