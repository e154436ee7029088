pub mod Rows
pub mod Counting
pub mod Greatest
pub mod Rising
pub mod Membership
pub mod Placing
pub mod Checking
pub mod Laws
