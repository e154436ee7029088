use Rattle.std.proofs.Common.{◌≡◌, ◌-◌, ◌≤◌, ◌++◌}
use Rattle.std.specs.Prelude.{replicate, vec_len}
use Rattle.pb_protocol_representatives.specs.declared.axis.TheConstants.{MAX_DIGITS}
use Rattle.pb_protocol_representatives.proofs.array.push_digits.Given as goal

-- so many are left
abbrev pub invariant-loop : goal.invariant-loop
invariant-loop l = record {
  digits : l.digits.items ++ replicate (l.array.count - l.counter) l.array.digit ≡ l.initial.digits.items ++ replicate l.array.count l.array.digit;
  few : vec_len l.digits ≤ MAX_DIGITS;
}
