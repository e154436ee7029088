use Rattle.std.proofs.Common.{◌≡◌, ◌≤◌, ◌++◌, map, drop}
use Rattle.std.specs.Prelude.{vec_len}
use Rattle.pb_protocol_representatives.specs.declared.axis.TheConstants.{MAX_DIGITS}
use Rattle.pb_protocol_representatives.specs.Tables.{array_form, state_digits}
use Rattle.pb_protocol_representatives.proofs.array.state_digits.Given as goal

-- the digits of the arrays that are left come after those that are there
abbrev pub invariant-loop-array : goal.invariant-loop-array
invariant-loop-array l = record {
  digits : l.digits.items ++ state_digits (map array_form (drop l.array-index l.arrays)) ≡ state_digits (map array_form l.arrays);
  few : vec_len l.digits ≤ MAX_DIGITS;
}
