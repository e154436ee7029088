pub mod Join
pub mod Inhabited
pub mod RuleNumber
pub mod Kinds
pub mod NamedRule
