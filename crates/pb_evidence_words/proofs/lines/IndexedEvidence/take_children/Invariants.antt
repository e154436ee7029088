use Rattle.std.proofs.Common.{◌≡◌, ℕ, ◌<◌, length, slice_index, take, if◌then◌else◌}
use Rattle.pb_game.specs.Adjacency.{is_among}
use Rattle.pb_evidence_words.proofs.lines.IndexedEvidence.take_children.Given as goal

abbrev pub invariant-loop-child : goal.invariant-loop-child
invariant-loop-child l =
    (k : ℕ) → k < length l.self.evidence.now.instances.items → slice_index l.parents k
    ≡ (if is_among (take l.child-index l.child-items) (slice_index l.self.evidence.now.instances.items k)
    then l.line else slice_index l.initial.parents k)
