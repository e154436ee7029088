use Rattle.std.proofs.Common.{◌≡◌, drop}
use Rattle.std.specs.Prelude.{is_some}
use Rattle.pb_text_meaning.specs.Sorts.{place_in}
use Rattle.pb_protocol_unfolder_terms.specs.Values.{is_named}
use Rattle.pb_protocol_unfolder_terms.specs.View.{declarations}
use Rattle.pb_protocol_unfolder_terms.proofs.enumerator.is_enumerator.Given as goal

abbrev pub invariant-loop-declaration : goal.invariant-loop-declaration
invariant-loop-declaration l =
    is_some (place_in (is_named l.name) (declarations l.sorts)) ≡ is_some (place_in (is_named l.name) (declarations (drop l.declaration-index l.sorts)))
