use Rattle.std.proofs.Common.{◌≡◌, drop}
use Rattle.pb_text_tree.specs.Form.{variable_forms}
use Rattle.pb_model_sizes.proofs.state.declares_none.Given as goal

-- no group so far has a variable
abbrev pub invariant-loop-group : goal.invariant-loop-group
invariant-loop-group l = variable_forms l.groups ≡ variable_forms (drop l.group-index l.groups)
