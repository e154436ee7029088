pub mod Status
pub mod Commands
pub mod Usages
pub mod Pages
pub mod Line
pub mod Options
pub mod Words
