pub mod Renamed
mod Symmetric
pub mod Translated
