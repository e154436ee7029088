pub mod Writable
pub mod Protocols
pub mod Laws
