use Rattle.std.proofs.Common.{◌≡◌, length}
use Rattle.pb_zielonka.proofs.Lists.{IsOverwritten}
use Rattle.pb_zielonka.proofs.regions.reset.Given as goal

abbrev pub invariant-loop-v : goal.invariant-loop-v
invariant-loop-v l = record {
  size : length l.numbers ≡ length l.initial.numbers;
  written : IsOverwritten 0 l.initial.numbers l.numbers l.list l.v-index 0;
}
