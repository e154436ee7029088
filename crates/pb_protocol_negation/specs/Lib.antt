pub mod Dual
pub mod Negation
pub mod Negated
pub mod Links
pub mod Verdict
pub mod Laws
pub mod WiderRanges
pub mod Examples
