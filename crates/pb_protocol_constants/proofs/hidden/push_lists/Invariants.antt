use Rattle.std.proofs.Common.{◌≡◌, ◌++◌, drop}
use Rattle.std.specs.Prelude.{flat_map}
use Rattle.pb_typing_declarations.specs.Declarations.{variable_names}
use Rattle.pb_protocol_typing.specs.View.{list_forms, names_in}
use Rattle.pb_protocol_constants.proofs.hidden.push_lists.Given as goal

-- the names so far, and those of the lists that are left
abbrev pub invariant-loop-groups : goal.invariant-loop-groups
invariant-loop-groups l =
    names_in l.initial.names.items ++ flat_map variable_names (list_forms l.lists)
    ≡ names_in l.names.items ++ flat_map variable_names (list_forms (drop l.groups-index l.lists))
