use Rattle.std.proofs.Common.{◌≡◌, ◌++◌, drop, map}
use Rattle.pb_text_tree.specs.Form.{enumerator_form}
use Rattle.pb_protocol_typing.specs.View.{names_in}
use Rattle.pb_typing_declarations.specs.Declarations.{own_names}
use Rattle.pb_protocol_groups.proofs.checks.push_enumerators.Given as goal

-- the names so far, and those that are left
abbrev pub invariant-loop-enumerator : goal.invariant-loop-enumerator
invariant-loop-enumerator l =
    names_in l.initial.names.items ++ own_names (map enumerator_form l.enumerators)
    ≡ names_in l.names.items ++ own_names (map enumerator_form (drop l.enumerator-index l.enumerators))
