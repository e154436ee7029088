use Rattle.std.proofs.Common.{◌≡◌, drop}
use Rattle.pb_text_tree.specs.Form.{variable_forms}
use Rattle.pb_protocol_typing.specs.Formulas.{variables_fault}
use Rattle.pb_protocol_typing.specs.View.{scope_of}
use Rattle.pb_protocol_typing.proofs.formula.variables_fault.Given as goal

-- the first fault is that of the groups that are left
abbrev pub invariant-loop-group : goal.invariant-loop-group
invariant-loop-group l = variables_fault (scope_of l.scope) (variable_forms l.groups) ≡ variables_fault (scope_of l.scope) (variable_forms (drop l.group-index l.groups))
