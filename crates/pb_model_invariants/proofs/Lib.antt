mod CopyLemmas
mod Chains
mod Law
