use Rattle.std.proofs.Common.{◌≡◌, drop}
use Rattle.pb_base_values.specs.Carrier.{contains}
use Rattle.pb_protocol_scalar_sets.proofs.enumerator.is_among.Given as goal

-- the value is among those that are left
abbrev pub invariant-loop-number : goal.invariant-loop-number
invariant-loop-number l = contains (drop l.number-index l.numbers) l.value ≡ contains l.numbers l.value
