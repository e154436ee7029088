use Rattle.std.proofs.Common.{◌≡◌, drop, map}
use Rattle.pb_text_meaning.specs.Sorts as sorts
use Rattle.pb_protocol_folding.specs.Enumerators.{passes}
use Rattle.pb_protocol_folding.specs.View.{declaration_of}
use Rattle.pb_protocol_folding.proofs.enumerator.place_in.Given as goal

-- no enumerator of the sorts before passes
abbrev pub invariant-loop-declaration : goal.invariant-loop-declaration
invariant-loop-declaration l =
    sorts.place_in (passes l.sought) (map declaration_of (drop l.declaration-index l.declarations))
    ≡ sorts.place_in (passes l.sought) (map declaration_of l.declarations)
