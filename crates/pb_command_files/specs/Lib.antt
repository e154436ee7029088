pub mod Buffer
pub mod Labels
pub mod Named
