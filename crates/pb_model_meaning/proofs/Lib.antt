pub mod Same
mod Monotone
pub mod Fixpoints
