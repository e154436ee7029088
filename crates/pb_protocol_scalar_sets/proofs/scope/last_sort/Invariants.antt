use Rattle.std.proofs.Common.{◌≡◌, drop}
use Rattle.std.specs.Option.{option_map}
use Rattle.pb_text_tree.specs.Form.{variable_forms}
use Rattle.pb_text_meaning.specs.Erase.{erased_variables}
use Rattle.pb_protocol_scalar_sets.specs.Scopes.{last_sort}
use Rattle.pb_protocol_scalar_sets.specs.View.{text_of}
use Rattle.pb_protocol_scalar_sets.proofs.scope.last_sort.Given as goal

-- the last variable is among the groups that are left, or is that which was found
abbrev pub invariant-loop-group : goal.invariant-loop-group
invariant-loop-group l =
    last_sort (option_map text_of l.found) (erased_variables (variable_forms (drop l.group-index l.groups))) l.name
    ≡ last_sort (option_map text_of l.initial.found) (erased_variables (variable_forms l.groups)) l.name
