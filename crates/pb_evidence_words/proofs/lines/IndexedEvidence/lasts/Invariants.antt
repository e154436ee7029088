use Rattle.std.proofs.Common.{◌≡◌, ℕ, ◌<◌, ◌≤◌, length, slice_index}
use Rattle.pb_evidence.specs.Evidence.{graph_of}
use Rattle.pb_evidence_words.specs.Order.{last_below}
use Rattle.pb_evidence_words.proofs.lines.IndexedEvidence.lasts.Given as goal

-- the lines before this one have been gone through
abbrev pub invariant-loop-line : goal.invariant-loop-line
invariant-loop-line l = record {
  within : l.line ≤ length l.self.evidence.now.instances.items;
  sized : length l.lasts.items ≡ length l.self.evidence.now.instances.items;
  lasts : (k : ℕ) → k < length l.self.evidence.now.instances.items
      → slice_index l.lasts.items k ≡ last_below (graph_of l.self.evidence.now) (slice_index l.self.evidence.now.instances.items k) l.line;
}
