pub mod Answers
pub mod Delivery
pub mod ModuleDelivery
pub mod Refusals
pub mod Writes
