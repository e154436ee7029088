pub mod ArrayWords
pub mod FirstArrays
pub mod Enumerators
pub mod Listed
pub mod Called
pub mod GroupValues
pub mod SaidStates
pub mod Summands
