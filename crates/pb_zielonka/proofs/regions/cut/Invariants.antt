use Rattle.std.proofs.Common.{◌≡◌, length}
use Rattle.std.specs.Prelude.{IsPermutation}
use Rattle.pb_zielonka.proofs.Lists.{IsCutSoFar}
use Rattle.pb_zielonka.proofs.regions.cut.Given as goal

abbrev pub invariant-loop-k : goal.invariant-loop-k
invariant-loop-k l = record {
  end : l.k-end ≡ length l.list;
  permuted : IsPermutation l.initial.list l.list;
  cut : IsCutSoFar l.rank l.list l.first l.k;
}
