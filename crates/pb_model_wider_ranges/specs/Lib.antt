pub mod Wider
pub mod Ranges
pub mod Laws
pub mod Examples
