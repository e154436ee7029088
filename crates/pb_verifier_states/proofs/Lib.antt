pub mod Hulls
pub mod Ordered
pub mod Missing
