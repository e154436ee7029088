use Rattle.std.proofs.Common.{◌≡◌, drop}
use Rattle.pb_text_tree.specs.Form.{argument_forms, variable_forms}
use Rattle.pb_protocol_typing.specs.Steps.{copies_fault}
use Rattle.pb_protocol_typing.specs.View.{scope_of}
use Rattle.pb_protocol_typing.proofs.copies.copies_fault.Given as goal

-- the first fault is that of the groups that are left
abbrev pub invariant-loop-group : goal.invariant-loop-group
invariant-loop-group l =
    copies_fault (scope_of l.scope) (argument_forms l.index) (variable_forms l.groups)
    ≡ copies_fault (scope_of l.scope) (argument_forms l.index) (variable_forms (drop l.group-index l.groups))
