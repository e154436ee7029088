use Rattle.std.proofs.Common.{◌≡◌, drop}
use Rattle.pb_text_meaning.specs.Sorts.{place_from}
use Rattle.pb_protocol_scalar_sets.specs.Sorts.{enumerators_in, is_named}
use Rattle.pb_protocol_scalar_sets.proofs.enumerator.place_among.Given as goal

-- the place is that among those that are left
abbrev pub invariant-loop-place : goal.invariant-loop-place
invariant-loop-place l = place_from l.place (is_named l.name) (enumerators_in (drop l.place l.enumerators)) ≡ place_from 0 (is_named l.name) (enumerators_in l.enumerators)
