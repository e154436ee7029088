pub mod PartsLemmas
pub mod FormulaLemmas
pub mod CorrectFormula
pub mod CorrectSorts
