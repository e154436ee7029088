use Rattle.std.proofs.Common.{◌≡◌, ◌++◌, map, take, drop}
use Rattle.pb_typing_values.proofs.Runs.{least}
use Rattle.pb_typing_values.proofs.odometer.start.Given as goal

-- those below the index are at their first values
abbrev pub invariant-loop-index : goal.invariant-loop-index
invariant-loop-index l = l.values ≡ map least (take l.index l.carriers) ++ drop l.index l.initial.values
