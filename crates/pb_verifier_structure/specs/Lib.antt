pub mod Structure
pub mod Views
pub mod Nesting
