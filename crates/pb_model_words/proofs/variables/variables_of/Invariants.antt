use Rattle.std.proofs.Common.{◌≡◌, ◌++◌, map, drop}
use Rattle.pb_text_tree.specs.Form.{variable_forms}
use Rattle.pb_model_words.specs.View.{variable_said}
use Rattle.pb_model_words.proofs.variables.variables_of.Given as goal

-- the variables so far, and those of the groups that are left
abbrev pub invariant-loop-group : goal.invariant-loop-group
invariant-loop-group l =
    map variable_said l.variables.items ++ variable_forms (drop l.group-index l.groups) ≡ variable_forms l.groups
