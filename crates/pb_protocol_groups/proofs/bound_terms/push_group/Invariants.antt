use Rattle.std.proofs.Common.{◌≡◌, ◌++◌, drop, map}
use Rattle.pb_text_tree.specs.Form.{named, variables_form}
use Rattle.pb_typing_declarations.specs.Declarations.{variable_names}
use Rattle.pb_protocol_typing.specs.View.{names_in}
use Rattle.pb_protocol_groups.proofs.bound_terms.push_group.Given as goal

-- the names so far, and those that are left
abbrev pub invariant-loop-name : goal.invariant-loop-name
invariant-loop-name l =
    names_in l.initial.names.items ++ variable_names (variables_form l.group) ≡ names_in l.names.items ++ map named (drop l.name-index l.name-items)
