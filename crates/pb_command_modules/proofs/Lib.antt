pub mod Deliveries
mod Refusals
pub mod Reports
mod Texts
