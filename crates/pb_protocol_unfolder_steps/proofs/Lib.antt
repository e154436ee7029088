mod GroupLemmas
mod InitialLemmas
pub mod InstanceLemmas
mod WholeLemmas
mod OkLemmas
mod RefusalLemmas
mod StateLemmas
mod StepLemmas
mod StepFaultLemmas
mod WrittenLemmas
