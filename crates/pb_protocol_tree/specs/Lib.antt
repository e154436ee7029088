pub mod Form
pub mod Links
