pub mod Once
pub mod LeadsOut
pub mod Unsettled
pub mod PutOffFairly
pub mod FairRuns
pub mod Unreactive
pub mod Examples
