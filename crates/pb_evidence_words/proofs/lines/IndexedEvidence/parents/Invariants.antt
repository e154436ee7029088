use Rattle.std.proofs.Common.{◌≡◌, ℕ, ◌<◌, ◌≤◌, length, slice_index}
use Rattle.pb_evidence_words.proofs.Parents.{parent_behind}
use Rattle.pb_evidence.specs.Evidence.{graph_of}
use Rattle.pb_evidence_words.proofs.lines.IndexedEvidence.parents.Given as goal

-- the lines from here on have told which lines come from them
abbrev pub invariant-loop-line : goal.invariant-loop-line
invariant-loop-line l = record {
  within : l.line ≤ length l.self.evidence.now.instances.items;
  sized : length l.parents.items ≡ length l.self.evidence.now.instances.items;
  parents : (k : ℕ) → k < length l.self.evidence.now.instances.items
      → slice_index l.parents.items k ≡ parent_behind (graph_of l.self.evidence.now) l.line k;
}

abbrev pub decreases-loop-line : goal.decreases-loop-line
decreases-loop-line l = l.line
