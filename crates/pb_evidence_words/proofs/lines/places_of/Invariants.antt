use Rattle.std.proofs.Common.{◌≡◌, ℕ, ◌<◌, nat_eq, slice_index, Some}
use Rattle.std.specs.HashMap.{get}
use Rattle.pb_evidence_words.proofs.lines.places_of.Given as goal

abbrev pub invariant-loop-k : goal.invariant-loop-k
invariant-loop-k l = (k : ℕ) → k < l.k → get nat_eq l.places (slice_index l.numbers k) ≡ Some k
