pub mod FormLemmas
pub mod CopyLemmas
