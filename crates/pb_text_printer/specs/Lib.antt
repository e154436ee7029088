pub mod Unplaced
pub mod Printing
pub mod Words
pub mod Page
pub mod Parts
pub mod Sayable
pub mod Comments
