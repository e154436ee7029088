pub mod Elements
mod Places
pub mod RunsLemmas
mod MadeLemmas
mod StepCalls
mod Told
pub mod ExactLemmas
pub mod AlwaysLemmas
pub mod PossiblyLemmas
pub mod InevitablyLemmas
mod SafetyLemmas
