use Rattle.std.proofs.Common.{◌≡◌, ◌++◌, drop}
use Rattle.pb_text_tree.specs.Form.{variable_forms}
use Rattle.pb_typing_declarations.specs.Variables.{variables_of}
use Rattle.pb_typing_declarations.proofs.variables.variable_entries.Given as goal

-- the variables so far, and those of the groups that are left
abbrev pub invariant-loop-group : goal.invariant-loop-group
invariant-loop-group l = variable_forms l.groups ≡ variables_of l.variables.items ++ variable_forms (drop l.group-index l.groups)
