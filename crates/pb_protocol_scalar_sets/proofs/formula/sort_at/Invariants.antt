use Rattle.std.proofs.Common.{◌≡◌, drop}
use Rattle.pb_text_tree.specs.Form.{variable_forms}
use Rattle.pb_text_meaning.specs.Erase.{erased_variables}
use Rattle.pb_protocol_scalar_sets.specs.Formulas.{sort_at}
use Rattle.pb_protocol_scalar_sets.proofs.formula.sort_at.Given as goal

-- the place, among the variables that are left
abbrev pub invariant-loop-group : goal.invariant-loop-group
invariant-loop-group l = sort_at (erased_variables (variable_forms l.groups)) l.place ≡ sort_at (erased_variables (variable_forms (drop l.group-index l.groups))) l.left
