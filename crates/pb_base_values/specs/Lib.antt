pub mod Carrier
pub mod Division
pub mod Interval
pub mod Laws
pub mod Operation
