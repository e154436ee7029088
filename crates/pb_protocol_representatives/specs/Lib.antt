pub mod Digits
pub mod Tables
pub mod Exchanges
pub mod Laws
