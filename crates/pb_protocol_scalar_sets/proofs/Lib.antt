mod Scopes
mod Carriers
mod Terms
mod Tested
mod Indices
mod Formulas
mod Symmetric
