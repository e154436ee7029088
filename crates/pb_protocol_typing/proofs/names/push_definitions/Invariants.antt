use Rattle.std.proofs.Common.{◌≡◌, ◌++◌, drop, map}
use Rattle.pb_protocol_tree.specs.Form.{definition_form}
use Rattle.pb_protocol_typing.specs.Faults.{definition_names}
use Rattle.pb_protocol_typing.specs.View.{names_in}
use Rattle.pb_protocol_typing.proofs.names.push_definitions.Given as goal

-- the names so far, and those that are left
abbrev pub invariant-loop-definition : goal.invariant-loop-definition
invariant-loop-definition l =
    names_in l.initial.names.items ++ definition_names (map definition_form l.definitions)
    ≡ names_in l.names.items ++ definition_names (map definition_form (drop l.definition-index l.definitions))
