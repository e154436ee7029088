use Rattle.std.proofs.Common.{◌≡◌, length, false}
use Rattle.pb_zielonka.proofs.Lists.{IsOverwritten}
use Rattle.pb_zielonka.proofs.regions.mark.Given as goal

abbrev pub invariant-loop-v : goal.invariant-loop-v
invariant-loop-v l = record {
  size : length l.region.items ≡ length l.initial.region.items;
  written : IsOverwritten false l.initial.region.items l.region.items l.list l.v-index l.inside;
}
