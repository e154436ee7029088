pub mod View
pub mod Found
pub mod Functions
pub mod Scopes
pub mod Bound
pub mod Elaborated
pub mod Contexts
