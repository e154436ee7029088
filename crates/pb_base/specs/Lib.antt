pub mod OrMemory
pub mod Names
