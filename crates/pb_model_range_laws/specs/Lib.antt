pub mod Calls
pub mod Negation
pub mod Laws
pub mod Examples
