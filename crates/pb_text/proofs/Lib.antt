pub mod CorrectText
pub mod CorrectWhole
pub mod Raised
pub mod WholeLemmas
pub mod ParseLemmas
