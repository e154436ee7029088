use Rattle.std.proofs.Common.{◌≡◌, length, drop}
use Rattle.pb_sorts.proofs.Filling.{IsFilling}
use Rattle.pb_sorts.proofs.tuple.tuple_at.Given as goal

-- the values so far are the first of the tuple, and there is room for the others
abbrev pub invariant-loop-carrier : goal.invariant-loop-carrier
invariant-loop-carrier l = record {
  filling : IsFilling l.carriers l.place l.values.items (drop l.carrier-index l.carriers) l.rest l.weight;
  long : length l.values.items ≡ l.carrier-index;
  inline : l.values.capacity ≡ 8;
}
