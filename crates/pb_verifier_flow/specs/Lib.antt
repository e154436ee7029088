pub mod Edges
pub mod Flows
