pub mod Numbers
pub mod Laws
pub mod Properties
pub mod Permutable
pub mod Truth
