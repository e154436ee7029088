use Rattle.std.proofs.Common.{◌≡◌, drop}
use Rattle.pb_text_meaning.specs.Sorts.{declared}
use Rattle.pb_protocol_unfolder_terms.specs.View.{declarations}
use Rattle.pb_protocol_unfolder_terms.proofs.written.declared.Given as goal

abbrev pub invariant-loop-sort : goal.invariant-loop-sort
invariant-loop-sort l =
    declared (declarations (drop l.sort-index l.declared_sorts)) l.name ≡ declared (declarations l.declared_sorts) l.name
