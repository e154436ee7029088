use Rattle.std.proofs.Common.{◌≡◌, length}
use Rattle.pb_zielonka.proofs.Lists.{IsOverwritten}
use Rattle.pb_zielonka.proofs.attractor.start.Given as goal

abbrev pub invariant-loop-v : goal.invariant-loop-v
invariant-loop-v l = record {
  rounds : l.attractor.rounds ≡ 1;
  choices : l.attractor.choice.items ≡ l.initial.attractor.choice.items;
  passed : l.attractor.passed.items ≡ l.initial.attractor.passed.items;
  listed : l.attractor.listed.items ≡ l.initial.attractor.listed.items;
  size : length l.attractor.rank.items ≡ length l.initial.attractor.rank.items;
  written : IsOverwritten 0 l.initial.attractor.rank.items l.attractor.rank.items l.target l.v-index 1;
}
