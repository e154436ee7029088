pub mod Answers
pub mod Refusals
pub mod Compilation
pub mod Explained
pub mod Writes
