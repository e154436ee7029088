pub mod Kept
pub mod Flaws
mod Ranges
pub mod Players
pub mod Lexicographic
pub mod Priorities
pub mod Arena
pub mod Standing
pub mod Counts
pub mod Local
pub mod CertifiedVertices
pub mod Winners
mod Assigned
mod Listed
mod Systems
mod Tested
