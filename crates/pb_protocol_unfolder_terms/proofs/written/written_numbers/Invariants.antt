use Rattle.std.proofs.Common.{◌≡◌, ◌-◌, ◌++◌, map, pos, ◌+ℤ◌}
use Rattle.pb_base_values.specs.Carrier.{numbers_from}
use Rattle.pb_protocol_folding.specs.Folding.{number}
use Rattle.pb_protocol_unfolder_terms.specs.Values.{written_term}
use Rattle.pb_protocol_unfolder_terms.proofs.written.written_numbers.Given as goal

abbrev pub invariant-loop-offset : goal.invariant-loop-offset
invariant-loop-offset l =
    map written_term l.values.items ++ map number (numbers_from (l.low +ℤ pos l.offset) (l.count - l.offset)) ≡ map number (numbers_from l.low l.count)
