use Rattle.std.proofs.Common.{◌≡◌, ◌++◌, map, take, drop, pos}
use Rattle.pb_typing_values.proofs.odometer.clear.Given as goal

-- those below the index are 0
abbrev pub invariant-loop-index : goal.invariant-loop-index
invariant-loop-index l = l.values ≡ map (λ v. pos 0) (take l.index l.initial.values) ++ drop l.index l.initial.values
