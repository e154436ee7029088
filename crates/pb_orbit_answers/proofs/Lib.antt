pub mod Answering
pub mod Wider
