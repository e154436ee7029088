pub mod Syntax
pub mod Steps
pub mod Satisfaction
pub mod Positive
pub mod Laws
pub mod Erase
pub mod Examples
