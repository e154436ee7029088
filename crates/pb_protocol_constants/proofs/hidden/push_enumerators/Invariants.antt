use Rattle.std.proofs.Common.{◌≡◌, ◌++◌, drop, map}
use Rattle.std.specs.Prelude.{flat_map}
use Rattle.pb_text_tree.specs.Form.{enumerator_form}
use Rattle.pb_typing_declarations.specs.Declarations.{names_of_enumerator}
use Rattle.pb_protocol_typing.specs.View.{names_in}
use Rattle.pb_protocol_constants.proofs.hidden.push_enumerators.Given as goal

-- the names so far, and those that are left
abbrev pub invariant-loop-enumerator : goal.invariant-loop-enumerator
invariant-loop-enumerator l =
    names_in l.initial.names.items ++ flat_map names_of_enumerator (map enumerator_form l.enumerators)
    ≡ names_in l.names.items ++ flat_map names_of_enumerator (map enumerator_form (drop l.enumerator-index l.enumerators))
