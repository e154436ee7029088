mod Kept
mod Distinct
mod EnumeratorNames
mod PositiveCalls
mod Positive
mod MonotoneSets
mod Fixpoints
mod KeptMeanings
mod WiderProtocols
mod PlainModels
pub mod Properties
pub mod States
pub mod Models
pub mod Packed
pub mod Moves
mod OwnValues
mod InstanceSteps
mod NamedSteps
pub mod Words
pub mod PlainWords
pub mod Spelled
pub mod Folded
pub mod Unfolded
mod SettledWords
pub mod FlatModels
pub mod Digits
pub mod PackedWords
pub mod FewValues
