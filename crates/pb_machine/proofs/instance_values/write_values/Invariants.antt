use Rattle.std.proofs.Common.{drop}
use Rattle.pb_machine.proofs.Digits.{IsEnd}
use Rattle.pb_machine.proofs.instance_values.write_values.Given as goal

-- the values from the index on are written
abbrev pub invariant-loop-index : goal.invariant-loop-index
invariant-loop-index l = IsEnd l.place l.rest (drop l.index l.carriers) (drop l.index l.values)
