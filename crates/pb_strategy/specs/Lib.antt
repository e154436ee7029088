pub mod Comparisons
pub mod Vertices
pub mod Meaning
pub mod Examples
pub mod Ranges
