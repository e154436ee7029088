mod Rows
mod Groups
pub mod Seen
mod Tables
mod FormulaRows
mod ListRows
mod AnyRows
mod WrittenRows
mod IndexRows
mod Whole
mod Steps
