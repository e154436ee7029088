use Rattle.std.proofs.Common.{◌≡◌, ℕ, ◌<◌, length, slice_index}
use Rattle.pb_evidence_words.specs.Order.{run_start}
use Rattle.pb_evidence_words.proofs.lines.starts_of.Given as goal

abbrev pub invariant-loop-line : goal.invariant-loop-line
invariant-loop-line l = record {
  sized : length l.starts.items ≡ l.line;
  starts : (k : ℕ) → k < l.line → slice_index l.starts.items k ≡ run_start (slice_index l.parents) k;
}
