pub mod Excess
pub mod Measures
pub mod MeasureTerms
pub mod MeasureEquations
pub mod MeasureFormulas
pub mod Tests
