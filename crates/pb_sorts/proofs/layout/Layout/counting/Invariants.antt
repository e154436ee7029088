use Rattle.std.proofs.Common.{◌≡◌, ℕ, ◌<◌, ◌++◌, length, drop, get_or}
use Rattle.pb_sorts.specs.Instance.{first_of}
use Rattle.pb_sorts.specs.Layout.{carriers_of, lists_of}
use Rattle.pb_sorts.proofs.layout.Layout.counting.Given as goal

-- the equations so far stand in both lists, and the next begins at `first`
abbrev pub invariant-loop-parameters : goal.invariant-loop-parameters
invariant-loop-parameters l = record {
  copied : lists_of l.carriers.items ++ lists_of (drop l.parameters-index l.equations) ≡ lists_of l.equations;
  long : length l.firsts.items ≡ l.parameters-index;
  starts : (k : ℕ) → k < l.parameters-index → get_or l.firsts.items k 0 ≡ first_of (carriers_of (lists_of l.equations)) k;
  next : l.first ≡ first_of (carriers_of (lists_of l.equations)) l.parameters-index;
}
