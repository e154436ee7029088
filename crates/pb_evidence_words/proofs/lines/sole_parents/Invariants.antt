use Rattle.std.proofs.Common.{◌≡◌, ℕ, ◌<◌, length, slice_index}
use Rattle.pb_evidence.specs.Evidence.{graph_of}
use Rattle.pb_evidence_words.specs.Order.{sole_parent_at}
use Rattle.pb_evidence_words.proofs.lines.sole_parents.Given as goal

abbrev pub invariant-loop-line : goal.invariant-loop-line
invariant-loop-line l = record {
  sized : length l.sole.items ≡ l.line;
  sole : (k : ℕ) → k < l.line → slice_index l.sole.items k ≡ sole_parent_at (graph_of l.evidence) l.cuts k;
}
