use Rattle.std.proofs.Common.{◌≡◌, drop}
use Rattle.pb_text_meaning.specs.Sorts as sorts
use Rattle.pb_protocol_folding.specs.Enumerators.{enumerators_of, passes}
use Rattle.pb_protocol_folding.proofs.enumerator.place_among.Given as goal

-- none of the enumerators before passes
abbrev pub invariant-loop-place : goal.invariant-loop-place
invariant-loop-place l =
    sorts.place_from l.place (passes l.sought) (enumerators_of (drop l.place l.enumerators))
    ≡ sorts.place_from 0 (passes l.sought) (enumerators_of l.enumerators)
