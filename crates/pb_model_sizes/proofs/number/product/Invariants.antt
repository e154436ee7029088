use Rattle.std.proofs.Common.{◌≡◌, ◌+◌, ◌*◌, ◌≤◌, ◌++◌, drop}
use Rattle.pb_model_sizes.specs.Digits.{AreDigits, low_digits, number_of_digits}
use Rattle.pb_model_sizes.proofs.number.product.Given as goal

-- the digits so far, and those of the product of what is left, with the carry
abbrev pub invariant-loop-digit : goal.invariant-loop-digit
invariant-loop-digit l = record {
  rest : AreDigits (drop l.digit-index l.digits);
  made : l.product.items ++ low_digits (l.factor * number_of_digits (drop l.digit-index l.digits) + l.carry) ≡ low_digits (l.factor * number_of_digits l.digits);
  small : l.carry ≤ 29 * l.factor;
}
