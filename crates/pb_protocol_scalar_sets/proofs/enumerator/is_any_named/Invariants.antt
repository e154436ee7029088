use Rattle.std.proofs.Common.{◌≡◌, drop}
use Rattle.std.specs.List.{list_any}
use Rattle.pb_protocol_scalar_sets.specs.Sorts.{enumerators_in, is_named}
use Rattle.pb_protocol_scalar_sets.proofs.enumerator.is_any_named.Given as goal

-- one of those that are left has the name
abbrev pub invariant-loop-enumerator : goal.invariant-loop-enumerator
invariant-loop-enumerator l = list_any (is_named l.name) (enumerators_in (drop l.enumerator-index l.enumerators)) ≡ list_any (is_named l.name) (enumerators_in l.enumerators)
