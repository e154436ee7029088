mod Orders
mod PropertyVerdicts
mod PropertyTexts
mod Excesses
mod Truths
mod Negations
mod Known
mod Decisions
mod Checked
mod Verdicts
mod Tellings
mod Denied
mod Moves
mod States
pub mod Findings
mod StepFindings
mod Symmetries
mod Notes
