use Rattle.std.proofs.Common.{◌≡◌, ◌++◌, drop, map}
use Rattle.pb_text_tree.specs.Form.{variables_form}
use Rattle.pb_text_tree.proofs.variable_copies.copy_variables.Given as goal

abbrev pub invariant-loop-group : goal.invariant-loop-group
invariant-loop-group l = map variables_form l.copies.items ++ map variables_form (drop l.group-index l.groups) ≡ map variables_form l.groups
