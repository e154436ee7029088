pub mod Carriers
mod Placing
mod OnlyCalls
mod CallCode
mod FormulaCode
mod LoopValues
mod Named
mod Supported
mod Called
