mod Keeping
mod Terms
mod Formulas
mod Tokens
mod Steps
mod Models
mod Kept
