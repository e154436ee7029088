use Rattle.std.proofs.Common.{◌≡◌, ◌++◌, drop}
use Rattle.pb_text_tree.specs.Form.{variable_forms}
use Rattle.pb_typing_declarations.specs.Declarations.{variable_names}
use Rattle.pb_protocol_typing.specs.View.{names_in}
use Rattle.pb_protocol_typing.proofs.names.push_variable_names.Given as goal

-- the names so far, and those of the groups that are left
abbrev pub invariant-loop-group : goal.invariant-loop-group
invariant-loop-group l =
    names_in l.fn.names.items ++ variable_names (variable_forms l.groups)
    ≡ names_in l.names.items ++ variable_names (variable_forms (drop l.group-index l.groups))
