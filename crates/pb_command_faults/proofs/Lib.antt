pub mod HandedUp
