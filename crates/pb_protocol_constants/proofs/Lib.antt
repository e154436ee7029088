pub mod Values
pub mod Names
pub mod Refusals
pub mod Lists
pub mod Definitions
pub mod Parts
