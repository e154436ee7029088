use Rattle.std.proofs.Common.{ℕ, ◌+◌, ◌-◌, ◌<◌, ◌≤◌, length, get_or}
use Rattle.pb_zielonka.specs.Regions.{region_count}
use Rattle.pb_zielonka.specs.Kept.{IsClearedOn, Sifts}
use Rattle.pb_zielonka.proofs.support.drop_dependents.Given as goal

abbrev pub invariant-loop-k : goal.invariant-loop-k
invariant-loop-k l = record {
  within : l.k ≤ length l.dropped.items;
  sifted : Sifts l.standing l.initial.kept l.kept l.dropped.items;
  cleared : (j : ℕ) → j < l.k → IsClearedOn l.standing l.kept (get_or l.dropped.items j 0);
}

abbrev pub decreases-loop-k : goal.decreases-loop-k
decreases-loop-k l = region_count l.kept + length l.dropped.items - l.k
