pub mod Computed
pub mod Unknown
pub mod SlotLemmas
pub mod Shaped
