use Rattle.std.proofs.Common.{◌≡◌, ◌++◌, map, take, drop}
use Rattle.pb_typing_values.proofs.Runs.{least, AreLast}
use Rattle.pb_typing_values.proofs.odometer.advance.Given as goal

-- those from the index on were at their last values, and are at their first ones
abbrev pub invariant-loop-index : goal.invariant-loop-index
invariant-loop-index l = record {
  same : l.values ≡ take l.index l.initial.values ++ map least (drop l.index l.carriers);
  last : AreLast (drop l.index l.carriers) (drop l.index l.initial.values);
}
