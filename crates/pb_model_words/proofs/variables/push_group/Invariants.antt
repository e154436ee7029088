use Rattle.std.proofs.Common.{◌≡◌, ◌++◌, map, drop}
use Rattle.pb_text_tree.specs.Form.{variables_form}
use Rattle.pb_model_words.specs.View.{variable_of_sort, variable_said}
use Rattle.pb_model_words.proofs.variables.push_group.Given as goal

-- the variables so far, and those that are left
abbrev pub invariant-loop-name : goal.invariant-loop-name
invariant-loop-name l =
    map variable_said l.variables.items ++ map (variable_of_sort l.group.sort) (drop l.name-index l.name-items) ≡ map variable_said l.initial.variables.items ++ variables_form l.group
