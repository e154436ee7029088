use Rattle.std.proofs.Common.{◌≡◌, drop}
use Rattle.pb_text_meaning.specs.Sorts.{place_in}
use Rattle.pb_protocol_scalar_sets.specs.Sorts.{declarations_in, is_named}
use Rattle.pb_protocol_scalar_sets.proofs.enumerator.place_in.Given as goal

-- the place is that in the sorts that are left
abbrev pub invariant-loop-declaration : goal.invariant-loop-declaration
invariant-loop-declaration l = place_in (is_named l.name) (declarations_in (drop l.declaration-index l.declarations)) ≡ place_in (is_named l.name) (declarations_in l.declarations)
