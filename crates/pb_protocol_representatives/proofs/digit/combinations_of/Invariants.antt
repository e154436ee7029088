use Rattle.std.proofs.Common.{◌≡◌, ◌*◌, drop}
use Rattle.pb_protocol_representatives.specs.Digits.{combinations_of}
use Rattle.pb_protocol_representatives.proofs.digit.combinations_of.Given as goal

-- the numbers of the digits so far, with those that are left, are all numbers
abbrev pub invariant-loop-digit : goal.invariant-loop-digit
invariant-loop-digit l = l.count * combinations_of (drop l.digit-index l.digits) ≡ combinations_of l.digits
