use Rattle.std.proofs.Common.{◌≡◌, ◌++◌}
use Rattle.pb_model_sizes.specs.Digits.{low_digits}
use Rattle.pb_model_sizes.proofs.number.push_digits.Given as goal

-- the digits so far, and those of the rest
abbrev pub invariant-rest : goal.invariant-rest
invariant-rest l = l.digits.items ++ low_digits l.rest ≡ l.initial.digits.items ++ low_digits l.number

abbrev pub decreases-rest : goal.decreases-rest
decreases-rest l = l.rest
