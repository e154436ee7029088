use Rattle.std.proofs.Common.{◌≡◌, ℕ, drop}
use Rattle.std.specs.Prelude.{is_some}
use Rattle.pb_text_meaning.specs.Sorts.{place_from}
use Rattle.pb_protocol_unfolder_terms.specs.Values.{enumerators_said, is_named}
use Rattle.pb_protocol_unfolder_terms.proofs.enumerator.is_among.Given as goal

abbrev pub invariant-loop-enumerator : goal.invariant-loop-enumerator
invariant-loop-enumerator l =
    (n : ℕ) → is_some (place_from n (is_named l.name) (enumerators_said l.enumerators)) ≡ is_some (place_from n (is_named l.name) (enumerators_said (drop l.enumerator-index l.enumerators)))
