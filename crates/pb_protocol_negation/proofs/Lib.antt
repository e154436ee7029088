mod Opposed
mod NeverBoth
mod OtherProperties
pub mod Erased
mod OneWithoutCuts
mod WiderRanges
mod Chains
