pub mod Pass
pub mod Programs
pub mod Acceptance
pub mod Names
pub mod FaultText
