pub mod Arrays
pub mod Examples
pub mod GroupLines
pub mod Laws
pub mod States
pub mod Vocabulary
pub mod View
pub mod Words
