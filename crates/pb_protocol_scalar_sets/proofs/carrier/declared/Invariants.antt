use Rattle.std.proofs.Common.{◌≡◌, drop}
use Rattle.pb_text_meaning.specs.Sorts as sorts
use Rattle.pb_protocol_scalar_sets.specs.Sorts.{declarations_in}
use Rattle.pb_protocol_scalar_sets.proofs.carrier.declared.Given as goal

abbrev pub invariant-loop-declaration : goal.invariant-loop-declaration
invariant-loop-declaration l = sorts.declared (declarations_in (drop l.declaration-index l.declarations)) l.sort ≡ sorts.declared (declarations_in l.declarations) l.sort
