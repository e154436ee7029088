mod FreeLemmas
mod ComesBackLemmas
mod UntilLemmas
mod AtLastLemmas
mod CounterexampleLemmas
mod WeakUntilLemmas
mod PrecedenceLemmas
mod NeverLemmas
mod DeadlockLemmas
mod EverywhereLemmas
mod ResponseLemmas
mod StepResponseLemmas
mod NeverAnsweredLemmas
mod InfiniteRunsLemmas
mod InfinitelyOftenLemmas
mod PersistenceLemmas
mod ReactivityLemmas
mod EndlessLassosLemmas
mod GivenUpLemmas
mod WeakFairnessLemmas
pub mod Walk
pub mod FairPattern
