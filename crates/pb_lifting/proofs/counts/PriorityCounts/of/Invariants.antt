use Rattle.std.proofs.Common.{◌≡◌, ◌<◌, ℕ, length}
use Rattle.std.specs.Prelude.{slice_index}
use Rattle.pb_lifting.specs.Measures.{vertices_upto}
use Rattle.pb_lifting.proofs.counts.PriorityCounts.of.Given as goal

abbrev pub invariant-loop-v : goal.invariant-loop-v
invariant-loop-v l = record {
  sized : length l.vertices ≡ 256;
  counted : (q : ℕ) → q < 256 → slice_index l.vertices q ≡ vertices_upto l.game q l.v;
}
