pub mod Weight
pub mod Links
pub mod Nodes
pub mod FunctionArguments
pub mod Applications
pub mod OperandSteps
